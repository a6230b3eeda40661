-- Facts that messages say: with rows put back, with other logs, trimmed, and by more messages.
use Rattle.std.specs.Prelude.{◌==◌, ◌&&◌, List, [], ◌∷◌, Contains, Option, Some, None, option_to_list, find}
use Rattle.std.proofs.Common.{◌≡◌, refl, subst, inl, inr, ◌⊎◌}
use Rattle.std.specs.List.{filter_map}
use Rattle.testing_rules_items.proofs.Members.{head_of, tail_of}
use Rattle.testing_rules_model.specs.declared.facts.BuildIn.{BuildIn}
use Rattle.testing_rules_model.specs.declared.facts.DelaysIn.{DelaysIn}
use Rattle.testing_rules_model.specs.declared.fact_row.FactKind.{FactKind}
use Rattle.testing_rules_model.specs.declared.fact_row.FactKind.TheVariants.{Source, Upload, Build, Drop, Bug, Hint, Unhint, Delays}
use Rattle.testing_rules_model.specs.declared.fact_row.FactRow.{FactRow}
use Rattle.testing_rules_model.specs.Covered.{Covered, CoveredItem, upload_of, drop_of, bug_of, hint_of, unhint_of, delays_of, builds_of, uploads_in, builds_in, drops_in, bugs_in, hints_in, unhints_in, delays_in}
use Rattle.testing_rules_model.specs.FactLists.{FactLists}
use Rattle.testing_rules_model.specs.FactOrder.{AreBySource, AreByPair}
use Rattle.testing_rules_model.specs.steps.FactOrder.{AreDropsByPair, AreByNumber}
use Rattle.testing_rules_model.specs.FactRows.{is_kind, rows_of}
use Rattle.testing_rules_model.specs.KeptFacts.{counts_beside, trimmed}
use Rattle.testing_rules_model.specs.SameMessages.{SameElements, HasOneOfEach}
use Rattle.testing_rules_model.specs.StandsFor.{StandsFor}
use Rattle.testing_rules_model.specs.Suite.{Suite}
use Rattle.testing_rules_model.specs.Tells.{Tells}
use Rattle.testing_rules_model.specs.Unstable.{hint_order, unhint_order}
use Rattle.testing_rules_model.specs.WithMessage.{with_upload, with_build, with_greatest, with_bug, with_hint, with_unhint}
use Rattle.testing_rules_model.proofs.Least.{from_filter}
use Rattle.testing_rules_model.proofs.Sets.{given_by, gives, spread_from, spreads}
use Rattle.std.specs.List.Sorted.{IsStrictlySortedBy}
use Rattle.testing_rules_facts.specs.Restored.{Given, message_of, given_of, build_given, put_given, last_given, restored}
use Rattle.testing_rules_facts.specs.Uploads.{with_kept}
use Rattle.testing_rules_facts.proofs.KeptUploads.{kept_from}
use Rattle.testing_rules_facts.proofs.KeySlots.{by_source-upload, by_pair-build, drops_by_pair-drop, by_number-bug}
use Rattle.testing_rules_facts.proofs.Saying.{upload_from, build_from, drop_from, bug_from, hint_from, unhint_from, delays_from, hints_order, unhints_order}
use Rattle.testing_rules_laws.specs.steps.Restored.{restored_all}
use Rattle.testing_rules_laws.proofs.Naming.{passed, found}
use Rattle.testing_rules_laws.proofs.Telling.{said_so, in_order_so, rows_tell}

-- What is put in, where there is something, is among those to choose from as the others are.
module _ {A : Type 0} (put : A → List A → List A) (from : (x z : A) (ys : List A) → Contains (put x ys) z → (x ≡ z) ⊎ Contains ys z) (pool : List A) where
  given_said : (v : Option A) (ys : List A) → ((y : A) → v ≡ Some y → Contains pool y) → ((z : A) → Contains ys z → Contains pool z)
      → (z : A) → Contains (put_given put v ys) z → Contains pool z
  given_said None ys own said z c = said z c
  given_said (Some x) ys own said z c = elim (from x z ys c) [ inl e ↦ subst (Contains pool) e (own x refl) | inr among ↦ said z among ]

given_order : {A : Type 0} (put : A → List A → List A) (P : List A → Type 0) → ((x : A) (ys : List A) → P ys → P (put x ys)) → (v : Option A) (ys : List A) → P ys → P (put_given put v ys)
given_order put P keeps None ys h = h
given_order put P keeps (Some x) ys h = keeps x ys h

last_said : (pool : List DelaysIn) (v last : Option DelaysIn) → ((d : DelaysIn) → v ≡ Some d → Contains pool d) → ((z : DelaysIn) → Contains (option_to_list last) z → Contains pool z)
    → (z : DelaysIn) → Contains (option_to_list (last_given v last)) z → Contains pool z
last_said pool None last own said z c = said z c
last_said pool (Some d) last own said z c = elim (delays_from d z last c) [ inl e ↦ subst (Contains pool) e (own d refl) | inr among ↦ said z among ]

-- What a row gives, the set says.
module _ (x : Given) (s : Covered) (there : Contains s (message_of x)) where
  of_message : {B : Type 0} (kind : FactKind) (says : CoveredItem → Option B) (y : B) → given_of kind says x ≡ Some y → Contains (filter_map says s) y
  of_message kind says y e = gives says s (message_of x) y there (passed (is_kind x.0.kind kind && (x.0.place == 0)) (says (message_of x)) y e).1

  of_build : (b : BuildIn) → build_given x ≡ Some b → Contains (builds_in s) b
  of_build b e =
      let k = passed (is_kind x.0.kind Build) (find (λ y. y.place == x.0.place) (builds_of (message_of x))) b e in
      spreads builds_of s (message_of x) b there (found x.0.place (builds_of (message_of x)) b k.1).0

pub restored_tell : (x : Given) (f : FactLists) (s : Covered) → Tells f s → Contains s (message_of x) → Tells (restored x f) s
restored_tell x f s h there = record {
  said = record {
    sources = given_said with_upload upload_from (uploads_in s) (given_of Source upload_of x) f.sources (of_message x s there Source upload_of) h.said.sources;
    uploads = given_said with_kept kept_from (uploads_in s) (given_of Upload upload_of x) f.uploads (of_message x s there Upload upload_of) h.said.uploads;
    rows = given_said with_build build_from (builds_in s) (build_given x) f.rows (of_build x s there) h.said.rows;
    drops = given_said with_greatest drop_from (drops_in s) (given_of Drop drop_of x) f.drops (of_message x s there Drop drop_of) h.said.drops;
    bugs = given_said with_bug bug_from (bugs_in s) (given_of Bug bug_of x) f.bugs (of_message x s there Bug bug_of) h.said.bugs;
    hints = given_said with_hint hint_from (hints_in s) (given_of Hint hint_of x) f.hints (of_message x s there Hint hint_of) h.said.hints;
    unhints = given_said with_unhint unhint_from (unhints_in s) (given_of Unhint unhint_of x) f.unhints (of_message x s there Unhint unhint_of) h.said.unhints;
    delays = last_said (delays_in s) (given_of Delays delays_of x) f.delays (of_message x s there Delays delays_of) h.said.delays;
  };
  orderly = record {
    by_source = given_order with_upload AreBySource by_source-upload (given_of Source upload_of x) f.sources h.orderly.by_source;
    by_pair = given_order with_build AreByPair by_pair-build (build_given x) f.rows h.orderly.by_pair;
    drops_by_pair = given_order with_greatest AreDropsByPair drops_by_pair-drop (given_of Drop drop_of x) f.drops h.orderly.drops_by_pair;
    by_number = given_order with_bug AreByNumber by_number-bug (given_of Bug bug_of x) f.bugs h.orderly.by_number;
    hints = given_order with_hint (IsStrictlySortedBy hint_order) hints_order (given_of Hint hint_of x) f.hints h.orderly.hints;
    unhints = given_order with_unhint (IsStrictlySortedBy unhint_order) unhints_order (given_of Unhint unhint_of x) f.unhints h.orderly.unhints;
  };
}

pub all_restored_tell : (xs : List Given) (f : FactLists) (s : Covered) → Tells f s → ((x : Given) → Contains xs x → Contains s (message_of x)) → Tells (restored_all xs f) s
all_restored_tell [] f s h there = h
all_restored_tell (x ∷ xs) f s h there = all_restored_tell xs (restored x f) s (restored_tell x f s h (there x (head_of x xs))) (λ y c. there y (tail_of x xs y c))

pub logged_tell : (came left : List FactRow) (f : FactLists) (s : Covered) → Tells f s → Tells (record f { came = came; left = left }) s
logged_tell came left f s h = record {
  said = record {
    sources = h.said.sources;
    uploads = h.said.uploads;
    rows = h.said.rows;
    drops = h.said.drops;
    bugs = h.said.bugs;
    hints = h.said.hints;
    unhints = h.said.unhints;
    delays = h.said.delays;
  };
  orderly = record {
    by_source = h.orderly.by_source;
    by_pair = h.orderly.by_pair;
    drops_by_pair = h.orderly.drops_by_pair;
    by_number = h.orderly.by_number;
    hints = h.orderly.hints;
    unhints = h.orderly.unhints;
  };
}

pub trimmed_tell : (t : Suite) (f : FactLists) (s : Covered) → Tells f s → Tells (trimmed t f) s
trimmed_tell t f s h = record {
  said = record {
    uploads = λ u c. h.said.uploads u (from_filter (counts_beside t) f.uploads u c).0;
    sources = h.said.sources;
    rows = h.said.rows;
    drops = h.said.drops;
    bugs = h.said.bugs;
    hints = h.said.hints;
    unhints = h.said.unhints;
    delays = h.said.delays;
  };
  orderly = record {
    by_source = h.orderly.by_source;
    by_pair = h.orderly.by_pair;
    drops_by_pair = h.orderly.drops_by_pair;
    by_number = h.orderly.by_number;
    hints = h.orderly.hints;
    unhints = h.orderly.unhints;
  };
}

-- What messages say, a set that has them says.
module _ (s more : Covered) (within : (m : CoveredItem) → Contains s m → Contains more m) where
  said_more : {B : Type 0} (says : CoveredItem → Option B) (y : B) → Contains (filter_map says s) y → Contains (filter_map says more) y
  said_more says y c = let m = given_by says s y c in gives says more m.0 y (within m.0 m.1) m.2

  pub more_tell : (f : FactLists) → Tells f s → Tells f more
  more_tell f h = record {
    said = record {
      sources = λ u c. said_more upload_of u (h.said.sources u c);
      uploads = λ u c. said_more upload_of u (h.said.uploads u c);
      rows = λ b c. let m = spread_from builds_of s b (h.said.rows b c) in spreads builds_of more m.0 b (within m.0 m.1) m.2;
      drops = λ d c. said_more drop_of d (h.said.drops d c);
      bugs = λ b c. said_more bug_of b (h.said.bugs b c);
      hints = λ x c. said_more hint_of x (h.said.hints x c);
      unhints = λ x c. said_more unhint_of x (h.said.unhints x c);
      delays = λ d c. said_more delays_of d (h.said.delays d c);
    };
    orderly = h.orderly;
  }

pub stand_tell : (f : FactLists) (s : Covered) (t : Suite) → StandsFor f s t → Tells f s
stand_tell f s t h = record { said = said_so f s t h; orderly = in_order_so f s t h }

pub said_rows_tell : (f g : FactLists) (s : Covered) (t : Suite) → HasOneOfEach s → StandsFor f s t → Tells g s → SameElements (rows_of f) (rows_of g) → StandsFor g s t
said_rows_tell f g s t one h k same = rows_tell f g s t one h k.said k.orderly same
