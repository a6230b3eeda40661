-- What messages say of facts, with one more message.
use Rattle.std.specs.Prelude.{ℕ, Bool, true, false, cond, List, [], ◌∷◌, ◌++◌, Contains, Option, Some, None, option_to_list}
use Rattle.std.proofs.Common.{◌≡◌, inl, inr, ◌⊎◌}
use Rattle.std.specs.List.Sorted.{IsStrictlySortedBy}
use Rattle.std.specs.Ordering.{is_lt}
use Rattle.std.proofs.lemmas.Cmp.{nat_cmp_total}
use Rattle.testing_rules_items.specs.declared.item.Item.{Item}
use Rattle.testing_rules_items.specs.declared.item.Item.TheVariants as item
use Rattle.testing_rules_items.proofs.Members.{none_among, tail_of}
use Rattle.testing_rules_model.specs.declared.facts.UploadIn.{UploadIn}
use Rattle.testing_rules_model.specs.declared.facts.BuildIn.{BuildIn}
use Rattle.testing_rules_model.specs.declared.facts.DropIn.{DropIn}
use Rattle.testing_rules_model.specs.declared.facts.BugIn.{BugIn}
use Rattle.testing_rules_model.specs.declared.facts.HintIn.{HintIn}
use Rattle.testing_rules_model.specs.declared.facts.UnhintIn.{UnhintIn}
use Rattle.testing_rules_model.specs.declared.facts.DelaysIn.{DelaysIn}
use Rattle.testing_rules_model.specs.declared.fact_row.FactRow.{FactRow}
use Rattle.testing_rules_model.specs.FactLists.{FactLists, no_facts}
use Rattle.testing_rules_model.specs.Tells.{AreSaidBy, AreOrderly, Tells}
use Rattle.testing_rules_model.specs.Covered.{Covered, placed_from, uploads_in, builds_in, drops_in, bugs_in, hints_in, unhints_in, delays_in}
use Rattle.testing_rules_model.specs.Unstable.{upload_order, build_order, drop_order, bug_order, hint_order, unhint_order, delays_order, pair_of, drop_pair}
use Rattle.testing_rules_model.specs.WithMessage.{with_upload, with_build, with_builds, with_greatest, with_bug, with_hint, with_unhint, with_delays, outlives}
use Rattle.testing_rules_model.specs.steps.WithMessage.{stands_beside}
use Rattle.testing_rules_model.proofs.Least.{from_filter}
use Rattle.testing_rules_model.proofs.MoreMail.{pair_total}
use Rattle.testing_rules_model.proofs.Orders.{text_order, hint_total, unhint_total}
use Rattle.testing_rules_model.proofs.Picks.{rises-put}
use Rattle.testing_rules_model.proofs.Sets.{first_or_rest, at_front, put_from}
use Rattle.testing_rules_facts.specs.steps.Entries.{entry_of, with_entry}
use Rattle.testing_rules_fact_order.specs.Uploads.{with_kept}
use Rattle.testing_rules_facts.proofs.KeyMembers.{first_from}
use Rattle.testing_rules_facts.proofs.KeySlots.{by_source-upload, by_pair-builds, by_pair-drop, drops_by_pair-drop, by_number-bug}
use Rattle.testing_rules_facts.proofs.KeptUploads.{kept_from}

-- Which elements a list has with one more.
pub upload_from : (u z : UploadIn) (us : List UploadIn) → Contains (with_upload u us) z → (u ≡ z) ⊎ Contains us z
upload_from u z us c = first_from (λ (v : UploadIn). v.source) text_order upload_order u z us c

pub build_from : (b z : BuildIn) (bs : List BuildIn) → Contains (with_build b bs) z → (b ≡ z) ⊎ Contains bs z
build_from b z bs c = first_from pair_of pair_total build_order b z bs c

pub drop_from : (d z : DropIn) (ds : List DropIn) → Contains (with_greatest d ds) z → (d ≡ z) ⊎ Contains ds z
drop_from d z ds c = first_from drop_pair pair_total drop_order d z ds c

pub bug_from : (b z : BugIn) (bs : List BugIn) → Contains (with_bug b bs) z → (b ≡ z) ⊎ Contains bs z
bug_from b z bs c = first_from (λ (v : BugIn). v.bug) nat_cmp_total bug_order b z bs c

pub hint_from : (x z : HintIn) (xs : List HintIn) → Contains (with_hint x xs) z → (x ≡ z) ⊎ Contains xs z
hint_from x z xs c = put_from hint_total x z xs c

pub unhint_from : (x z : UnhintIn) (xs : List UnhintIn) → Contains (with_unhint x xs) z → (x ≡ z) ⊎ Contains xs z
unhint_from x z xs c = put_from unhint_total x z xs c

last_either : (b : Bool) (d l z : DelaysIn) → Contains (cond b l d ∷ []) z → (d ≡ z) ⊎ Contains (l ∷ []) z
last_either true d l z c = inr c
last_either false d l z c = elim (first_or_rest d [] z c) [ inl e ↦ inl e | inr none ↦ none_among z none ]

pub delays_from : (d z : DelaysIn) (last : Option DelaysIn) → Contains (option_to_list (with_delays d last)) z → (d ≡ z) ⊎ Contains (option_to_list last) z
delays_from d z None c = first_or_rest d [] z c
delays_from d z (Some l) c = last_either (is_lt (delays_order l d)) d l z c

-- The order of hints and of unhints with one more.
pub hints_order : (x : HintIn) (xs : List HintIn) → IsStrictlySortedBy hint_order xs → IsStrictlySortedBy hint_order (with_hint x xs)
unfolding IsStrictlySortedBy
hints_order x xs h = rises-put hint_total x xs h

pub unhints_order : (x : UnhintIn) (xs : List UnhintIn) → IsStrictlySortedBy unhint_order xs → IsStrictlySortedBy unhint_order (with_unhint x xs)
unfolding IsStrictlySortedBy
unhints_order x xs h = rises-put unhint_total x xs h

-- All of them are among those to choose from and the new one.
module _ {A : Type 0} (x : A) (old put pool : List A) (from : (z : A) → Contains put z → (x ≡ z) ⊎ Contains old z) (said : (z : A) → Contains old z → Contains pool z) where
  one_more : (z : A) → Contains put z → Contains (x ∷ pool) z
  one_more z c = elim (from z c) [ inl e ↦ at_front x z pool e | inr among ↦ tail_of x pool z (said z among) ]

build_more : (c : Bool) (b : BuildIn) (rows pool : List BuildIn) → ((z : BuildIn) → Contains rows z → Contains pool z)
    → (z : BuildIn) → Contains (cond c (with_build b rows) rows) z → Contains (b ∷ pool) z
build_more true b rows pool said z c = one_more b rows (with_build b rows) pool (λ y d. build_from b y rows d) said z c
build_more false b rows pool said z c = tail_of b pool z (said z c)

builds_more : (stands : BuildIn → Bool) (bs rows pool : List BuildIn) → ((z : BuildIn) → Contains rows z → Contains pool z)
    → (z : BuildIn) → Contains (with_builds stands bs rows) z → Contains (bs ++ pool) z
builds_more stands [] rows pool said z c = said z c
builds_more stands (b ∷ bs) rows pool said z c = build_more (stands b) b (with_builds stands bs rows) (bs ++ pool) (builds_more stands bs rows pool said) z c

module _ (old : FactLists) (s : Covered) (h : Tells old s) (n k : ℕ) where
  abbrev with_item : Item → FactLists
  with_item i = with_entry (entry_of (record { sender = n; number = k; item = i })) old

  abbrev more : Item → Covered
  more i = record { sender = n; number = k; item = i } ∷ s

  -- the fields that a message leaves
  abbrev said : AreSaidBy old s
  said = h.said

  abbrev order : AreOrderly old
  order = h.orderly

  pub says_more : (i : Item) → Tells (with_item i) (more i)
  says_more (item.Upload source version urgency day) =
      let u : UploadIn = record { source = source; version = version; urgency = urgency; day = day; sender = n; number = k } in
      record {
        said = record {
          sources = one_more u old.sources (with_upload u old.sources) (uploads_in s) (λ z c. upload_from u z old.sources c) said.sources;
          uploads = one_more u old.uploads (with_kept u old.uploads) (uploads_in s) (λ z c. kept_from u z old.uploads c) said.uploads;
          rows = said.rows;
          drops = said.drops;
          bugs = said.bugs;
          hints = said.hints;
          unhints = said.unhints;
          delays = said.delays;
        };
        orderly = record {
          by_source = by_source-upload u old.sources order.by_source;
          by_pair = order.by_pair;
          drops_by_pair = order.drops_by_pair;
          by_number = order.by_number;
          hints = order.hints;
          unhints = order.unhints;
        };
      }
  says_more (item.Dropped name arch version) =
      let d : DropIn = record { name = name; arch = arch; version = version; sender = n; number = k } in
      record {
        said = record {
          rows = λ z c. said.rows z (from_filter (outlives d) old.rows z c).0;
          drops = one_more d old.drops (with_greatest d old.drops) (drops_in s) (λ z c. drop_from d z old.drops c) said.drops;
          sources = said.sources;
          uploads = said.uploads;
          bugs = said.bugs;
          hints = said.hints;
          unhints = said.unhints;
          delays = said.delays;
        };
        orderly = record {
          by_pair = by_pair-drop d old.rows order.by_pair;
          drops_by_pair = drops_by_pair-drop d old.drops order.drops_by_pair;
          by_source = order.by_source;
          by_number = order.by_number;
          hints = order.hints;
          unhints = order.unhints;
        };
      }
  says_more (item.Build binaries) =
      let bs : List BuildIn = placed_from 1 n k binaries in
      record {
        said = record {
          rows = builds_more (stands_beside old.drops) bs old.rows (builds_in s) said.rows;
          sources = said.sources;
          uploads = said.uploads;
          drops = said.drops;
          bugs = said.bugs;
          hints = said.hints;
          unhints = said.unhints;
          delays = said.delays;
        };
        orderly = record {
          by_pair = by_pair-builds (stands_beside old.drops) bs old.rows order.by_pair;
          by_source = order.by_source;
          drops_by_pair = order.drops_by_pair;
          by_number = order.by_number;
          hints = order.hints;
          unhints = order.unhints;
        };
      }
  says_more (item.Bug bug source severity found fixed) =
      let b : BugIn = record { bug = bug; source = source; severity = severity; found = found; fixed = fixed; sender = n; number = k } in
      record {
        said = record {
          bugs = one_more b old.bugs (with_bug b old.bugs) (bugs_in s) (λ z c. bug_from b z old.bugs c) said.bugs;
          sources = said.sources;
          uploads = said.uploads;
          rows = said.rows;
          drops = said.drops;
          hints = said.hints;
          unhints = said.unhints;
          delays = said.delays;
        };
        orderly = record {
          by_number = by_number-bug b old.bugs order.by_number;
          by_source = order.by_source;
          by_pair = order.by_pair;
          drops_by_pair = order.drops_by_pair;
          hints = order.hints;
          unhints = order.unhints;
        };
      }
  says_more (item.Hint hint) =
      let x : HintIn = record { hint = hint; sender = n; number = k } in
      record {
        said = record {
          hints = one_more x old.hints (with_hint x old.hints) (hints_in s) (λ z c. hint_from x z old.hints c) said.hints;
          sources = said.sources;
          uploads = said.uploads;
          rows = said.rows;
          drops = said.drops;
          bugs = said.bugs;
          unhints = said.unhints;
          delays = said.delays;
        };
        orderly = record {
          hints = hints_order x old.hints order.hints;
          by_source = order.by_source;
          by_pair = order.by_pair;
          drops_by_pair = order.drops_by_pair;
          by_number = order.by_number;
          unhints = order.unhints;
        };
      }
  says_more (item.Unhint cancels) =
      let x : UnhintIn = record { cancels = cancels; sender = n; number = k } in
      record {
        said = record {
          unhints = one_more x old.unhints (with_unhint x old.unhints) (unhints_in s) (λ z c. unhint_from x z old.unhints c) said.unhints;
          sources = said.sources;
          uploads = said.uploads;
          rows = said.rows;
          drops = said.drops;
          bugs = said.bugs;
          hints = said.hints;
          delays = said.delays;
        };
        orderly = record {
          unhints = unhints_order x old.unhints order.unhints;
          by_source = order.by_source;
          by_pair = order.by_pair;
          drops_by_pair = order.drops_by_pair;
          by_number = order.by_number;
          hints = order.hints;
        };
      }
  says_more (item.Delays low medium high critical) =
      let x : DelaysIn = record { delays = record { low = low; medium = medium; high = high; critical = critical }; sender = n; number = k } in
      record {
        said = record {
          delays = one_more x (option_to_list old.delays) (option_to_list (with_delays x old.delays)) (delays_in s) (λ z c. delays_from x z old.delays c) said.delays;
          sources = said.sources;
          uploads = said.uploads;
          rows = said.rows;
          drops = said.drops;
          bugs = said.bugs;
          hints = said.hints;
          unhints = said.unhints;
        };
        orderly = record {
          by_source = order.by_source;
          by_pair = order.by_pair;
          drops_by_pair = order.drops_by_pair;
          by_number = order.by_number;
          hints = order.hints;
          unhints = order.unhints;
        };
      }
  says_more item.Nothing = record {
    said = record {
      sources = said.sources;
      uploads = said.uploads;
      rows = said.rows;
      drops = said.drops;
      bugs = said.bugs;
      hints = said.hints;
      unhints = said.unhints;
      delays = said.delays;
    };
    orderly = record {
      by_source = order.by_source;
      by_pair = order.by_pair;
      drops_by_pair = order.drops_by_pair;
      by_number = order.by_number;
      hints = order.hints;
      unhints = order.unhints;
    };
  }

-- No message says no facts, of which rows left.
pub none_tell : (left : List FactRow) → Tells (record no_facts { left = left }) []
unfolding IsStrictlySortedBy
none_tell left = record {
  said = record {
    sources = λ z c. none_among z c;
    uploads = λ z c. none_among z c;
    rows = λ z c. none_among z c;
    drops = λ z c. none_among z c;
    bugs = λ z c. none_among z c;
    hints = λ z c. none_among z c;
    unhints = λ z c. none_among z c;
    delays = λ z c. none_among z c;
  };
  orderly = record { by_source = tt; by_pair = tt; drops_by_pair = tt; by_number = tt; hints = tt; unhints = tt };
}
