-- Facts, put back from their rows.
use Rattle.std.specs.Prelude.{Bool, true, false, cond, List, [], ◌∷◌, map, filter, Contains, Option, Some, None, option_to_list, ◌==◌}
use Rattle.std.proofs.Common.{◌≡◌, refl, sym, ap, ◌∙◌, subst, inl, inr}
use Rattle.std.specs.List.{filter_map, cons_option}
use Rattle.std.specs.List.Sorted.{IsStrictlySortedBy}
use Rattle.std.specs.Str.{bytes_eq}
use Rattle.std.specs.declared.cmp.Ordering.{Ordering}
use Rattle.std.specs.Ordering.{nat_cmp, is_lt}
use Rattle.std.specs.Cmp.{IsTotalOrder}
use Rattle.std.proofs.lemmas.Cmp.{nat_cmp_total}
use Rattle.testing_rules_model.specs.declared.facts.UploadIn.{UploadIn}
use Rattle.testing_rules_model.specs.declared.facts.BuildIn.{BuildIn}
use Rattle.testing_rules_model.specs.declared.facts.DropIn.{DropIn}
use Rattle.testing_rules_model.specs.declared.facts.BugIn.{BugIn}
use Rattle.testing_rules_model.specs.declared.facts.DelaysIn.{DelaysIn}
use Rattle.testing_rules_model.specs.FactLists.{FactLists}
use Rattle.testing_rules_model.specs.FactOrder.{AreBySource, AreByPair}
use Rattle.testing_rules_model.specs.steps.FactOrder.{AreDropsByPair, AreByNumber}
use Rattle.testing_rules_model.specs.Suite.{Suite}
use Rattle.testing_rules_model.specs.Covered.{Covered, upload_of, drop_of, bug_of, hint_of, unhint_of, delays_of, uploads_in, builds_in, drops_in, bugs_in, hints_in, unhints_in, delays_in}
use Rattle.testing_rules_items.specs.Words.{byte_cmp, put_by, sorted_by, least}
use Rattle.testing_rules_model.specs.Unstable.{upload_order, build_order, drop_order, bug_order, delays_order, pair_order, pair_of, drop_pair, is_drop_of, is_above_drops}
use Rattle.testing_rules_model.specs.WithMessage.{with_upload, with_build, with_greatest, with_bug, with_hint, with_unhint, with_delays}
use Rattle.testing_rules_model.specs.SameMessages.{SameElements, HasOneOfEach}
use Rattle.testing_rules_model.specs.StandsFor.{StandsFor}
use Rattle.testing_rules_model.proofs.Least.{from_filter, least_from}
use Rattle.testing_rules_items.proofs.Members.{none_among, head_of, tail_of}
use Rattle.testing_rules_model.proofs.SameFacts.{upload_numbered, drop_numbered, bug_numbered, hint_numbered, unhint_numbered, delays_numbered}
use Rattle.testing_rules_model.proofs.Sets.{first_or_rest, given_by, from_sorted}
use Rattle.testing_rules_model.proofs.Orders.{text_order, upload_total, build_total, drop_total, bug_total, hint_total, unhint_total, delays_total}
use Rattle.testing_rules_model.proofs.MoreMail.{pair_total, counts_for, chosen_rows, chosen_sources, chosen_drops, chosen_bugs, sources-more, bugs-more, drops-more, rows-more, rows-skip}
use Rattle.testing_rules_facts.proofs.KeySlots.{by_source-upload, by_pair-build, drops_by_pair-drop, by_number-bug}
use Rattle.testing_rules_model.proofs.Picks.{rises-put, rises-sorted}
use Rattle.testing_rules_model.specs.declared.fact_row.FactKind.TheVariants.{Source, Upload, Drop, Bug, Hint, Unhint, Delays}
use Rattle.testing_rules_model.specs.FactRows.{upload_row, rows_of}
use Rattle.testing_rules_model.specs.steps.FactRows.{source_row, drop_row, bug_row, hint_row, unhint_row, delays_row}
use Rattle.testing_rules_laws.specs.steps.Restored.{restored_all, no_facts, AreRowsOf, AreSameFacts}
use Rattle.testing_rules_facts.specs.Restored.{Given, given_of, build_given, put_given, last_given, restored}
use Rattle.testing_rules_facts.proofs.KeyMembers.{first_from, first_own, first_others}
use Rattle.testing_rules_facts.proofs.KeptUploads.{message_total, message_tied, keys_in_order, keys_back, by_message-kept}
use Rattle.testing_rules_facts.specs.Uploads.{first_stays, with_kept}
use Rattle.testing_rules_laws.proofs.Orderly.{Puts, IsInOrder, put_all, put_all_is, put_all_same, by_from, by_own, by_others}
use Rattle.testing_rules_laws.proofs.Naming.{same_given, same_builds, of_sources, of_uploads, of_rows, of_drops, of_bugs, of_hints, of_unhints, of_delays, has_source, has_upload, has_build, has_drop, has_bug, has_hint, has_unhint, to8}

-- The order of what is chosen.
pub sources_order : (us : List UploadIn) → AreBySource (chosen_sources us)
unfolding IsStrictlySortedBy
sources_order [] = tt
sources_order (u ∷ us) = subst AreBySource (sym (sources-more u us)) (by_source-upload u (chosen_sources us) (sources_order us))

pub drops_order : (ds : List DropIn) → AreDropsByPair (chosen_drops ds)
unfolding IsStrictlySortedBy
drops_order [] = tt
drops_order (d ∷ ds) = subst AreDropsByPair (sym (drops-more d ds)) (drops_by_pair-drop d (chosen_drops ds) (drops_order ds))

pub bugs_order : (bs : List BugIn) → AreByNumber (chosen_bugs bs)
unfolding IsStrictlySortedBy
bugs_order [] = tt
bugs_order (b ∷ bs) = subst AreByNumber (sym (bugs-more b bs)) (by_number-bug b (chosen_bugs bs) (bugs_order bs))

rows_order_at : (stands : BuildIn → Bool) (c : Bool) (b : BuildIn) (bs : List BuildIn) → stands b ≡ c → AreByPair (chosen_rows stands bs) → AreByPair (chosen_rows stands (b ∷ bs))
rows_order_at stands true b bs e h = subst AreByPair (sym (rows-more stands b bs e)) (by_pair-build b (chosen_rows stands bs) h)
rows_order_at stands false b bs e h = subst AreByPair (sym (rows-skip stands b bs e)) h

pub rows_order : (stands : BuildIn → Bool) (bs : List BuildIn) → AreByPair (chosen_rows stands bs)
unfolding IsStrictlySortedBy
rows_order stands [] = tt
rows_order stands (b ∷ bs) = rows_order_at stands (stands b) b bs refl (rows_order stands bs)

map_itself : {A : Type 0} (xs : List A) → map (λ x. x) xs ≡ xs
map_itself [] = refl
map_itself (x ∷ xs) = ap (λ ys. x ∷ ys) (map_itself xs)

module _ {A : Type 0} {cmp : A → A → Ordering} (o : IsTotalOrder cmp) where
  pub in_order_itself : (xs : List A) → IsStrictlySortedBy cmp xs → IsInOrder (λ x. x) o xs
  unfolding IsStrictlySortedBy
  in_order_itself xs h = subst (IsStrictlySortedBy cmp) (sym (map_itself xs)) h

  pub sorted_strictly : (xs : List A) → IsStrictlySortedBy cmp (sorted_by (λ k. k) cmp xs)
  unfolding IsStrictlySortedBy
  sorted_strictly xs = rises-sorted o xs

  pub sorted_order : (xs : List A) → IsInOrder (λ x. x) o (sorted_by (λ k. k) cmp xs)
  sorted_order xs = in_order_itself (sorted_by (λ k. k) cmp xs) (sorted_strictly xs)

  put_order : (x : A) (ys : List A) → IsInOrder (λ x. x) o ys → IsInOrder (λ x. x) o (put_by (λ k. k) cmp x ys)
  unfolding IsStrictlySortedBy
  put_order x ys h =
      subst (IsStrictlySortedBy cmp) (sym (map_itself (put_by (λ k. k) cmp x ys))) (rises-put o x ys (subst (IsStrictlySortedBy cmp) (map_itself ys) h))

  puts_by : Puts (λ x. x) o (put_by (λ k. k) cmp)
  puts_by = record { order = put_order; from = by_from (λ x. x) o; own = λ x ys t. by_own (λ x. x) o x ys; others = by_others (λ x. x) o }

puts_upload : Puts (λ u. u.source) text_order with_upload
puts_upload = record {
  order = by_source-upload;
  from = first_from (λ u. u.source) text_order upload_order;
  own = first_own (λ u. u.source) text_order upload_order;
  others = first_others (λ u. u.source) text_order upload_order;
}

puts_kept : Puts (λ u. u) message_total with_kept
puts_kept = record {
  order = λ u us h. keys_in_order (with_kept u us) (by_message-kept u us (keys_back us h));
  from = first_from (λ u. u) message_total first_stays;
  own = first_own (λ u. u) message_total first_stays;
  others = first_others (λ u. u) message_total first_stays;
}

puts_build : Puts pair_of pair_total with_build
puts_build = record {
  order = by_pair-build;
  from = first_from pair_of pair_total build_order;
  own = first_own pair_of pair_total build_order;
  others = first_others pair_of pair_total build_order;
}

puts_drop : Puts drop_pair pair_total with_greatest
puts_drop = record {
  order = drops_by_pair-drop;
  from = first_from drop_pair pair_total drop_order;
  own = first_own drop_pair pair_total drop_order;
  others = first_others drop_pair pair_total drop_order;
}

puts_bug : Puts (λ b. b.bug) nat_cmp_total with_bug
puts_bug = record {
  order = by_number-bug;
  from = first_from (λ b. b.bug) nat_cmp_total bug_order;
  own = first_own (λ b. b.bug) nat_cmp_total bug_order;
  others = first_others (λ b. b.bug) nat_cmp_total bug_order;
}

-- What is chosen is one of those to choose from.
pub chosen_from : {A K : Type 0} {rank : A → A → Ordering} (o : IsTotalOrder rank) (test : K → A → Bool) (xs : List A) (ks : List K) (x : A)
    → Contains (filter_map (λ k. least rank (filter (test k) xs)) ks) x → Contains xs x
chosen_from {rank = rank} o test xs ks x c =
    let k = given_by (λ k. least rank (filter (test k) xs)) ks x c in
    (from_filter (test k.0) xs x (least_from o (filter (test k.0) xs) x k.2)).0

-- Each list, as the rows put it back.
module _ {A : Type 0} (put : A → List A → List A) (given : Given → Option A) (field : FactLists → List A) (step : (x : Given) (f : FactLists) → field (restored x f) ≡ put_given put (given x) (field f)) where
  one_given : (v : Option A) (ys zs : List A) → put_all put ys (put_given put v zs) ≡ put_all put (cons_option v ys) zs
  one_given None ys zs = refl
  one_given (Some x) ys zs = refl

  field_all : (xs : List Given) (f : FactLists) → field (restored_all xs f) ≡ put_all put (filter_map given xs) (field f)
  field_all [] f = refl
  field_all (x ∷ xs) f = field_all xs (restored x f) ∙ ap (put_all put (filter_map given xs)) (step x f) ∙ one_given (given x) (filter_map given xs) (field f)

-- the last delays
abbrev last_of_all : List DelaysIn → Option DelaysIn → Option DelaysIn
last_of_all [] last = last
last_of_all (d ∷ ds) last = last_of_all ds (with_delays d last)

one_last : (v : Option DelaysIn) (ys : List DelaysIn) (last : Option DelaysIn) → last_of_all ys (last_given v last) ≡ last_of_all (cons_option v ys) last
one_last None ys last = refl
one_last (Some d) ys last = refl

delays_all : (xs : List Given) (f : FactLists) → (restored_all xs f).delays ≡ last_of_all (filter_map (given_of Delays delays_of) xs) f.delays
delays_all [] f = refl
delays_all (x ∷ xs) f = delays_all xs (restored x f) ∙ one_last (given_of Delays delays_of x) (filter_map (given_of Delays delays_of) xs) f.delays

either_way : (b : Bool) (d : DelaysIn) → cond b d d ≡ d
either_way true d = refl
either_way false d = refl

last_stays : (d : DelaysIn) (ds : List DelaysIn) → ((x : DelaysIn) → Contains ds x → x ≡ d) → last_of_all ds (Some d) ≡ Some d
last_stays d [] only = refl
last_stays d (x ∷ ds) only =
    let same : with_delays x (Some d) ≡ Some d = ap (λ y. with_delays y (Some d)) (only x (head_of x ds)) ∙ ap Some (either_way (is_lt (delays_order d d)) d) in
    ap (last_of_all ds) same ∙ last_stays d ds (λ y c. only y (tail_of x ds y c))

last_is : (last : Option DelaysIn) (ds : List DelaysIn) → SameElements ds (option_to_list last) → last_of_all ds None ≡ last
last_is None [] same = refl
last_is None (x ∷ ds) same = none_among x (same.0 x (head_of x ds))
last_is (Some d) [] same = none_among d (same.1 d (head_of d []))
last_is (Some d) (x ∷ ds) same =
    let only : (y : DelaysIn) → Contains (x ∷ ds) y → y ≡ d = λ y c. elim (first_or_rest d [] y (same.0 y c)) [ inl e ↦ sym e | inr none ↦ none_among y none ] in
    ap (λ y. last_of_all ds (Some y)) (only x (head_of x ds)) ∙ last_stays d ds (λ y c. only y (tail_of x ds y c))

pub delays_from : (s : Covered) (last : Option DelaysIn) → last ≡ least delays_order (delays_in s) → (d : DelaysIn) → Contains (option_to_list last) d → Contains (delays_in s) d
delays_from s None e d c = none_among d c
delays_from s (Some l) e d c = elim (first_or_rest l [] d c) [
  | inl same ↦ subst (Contains (delays_in s)) same (least_from delays_total (delays_in s) l (sym e))
  | inr none ↦ none_among d none
]

-- All of them.
module _ (f : FactLists) (s : Covered) (t : Suite) (xs : List Given) (one : HasOneOfEach s) (h : StandsFor f s t) (are : AreRowsOf xs f s) where
  sources_same : SameElements (filter_map (given_of Source upload_of) xs) f.sources
  sources_same =
      same_given xs s one are.items upload_of (λ u. u.sender) (λ u. u.number) (λ m. upload_numbered m.sender m.number m.item) Source source_row (λ u. refl) f.sources
      (λ u c. chosen_from upload_total (λ name v. bytes_eq v.source name) (uploads_in s) (sorted_by (λ n. n) byte_cmp (map (λ v. v.source) (uploads_in s))) u (subst (λ l. Contains l u) h.sources c))
      (rows_of f) are.rows (of_sources f) (has_source f)

  uploads_same : SameElements (filter_map (given_of Upload upload_of) xs) f.uploads
  uploads_same =
      same_given xs s one are.items upload_of (λ u. u.sender) (λ u. u.number) (λ m. upload_numbered m.sender m.number m.item) Upload upload_row (λ u. refl) f.uploads
      h.are_uploads (rows_of f) are.rows (of_uploads f) (has_upload f)

  rows_same : SameElements (filter_map build_given xs) f.rows
  rows_same =
      same_builds xs s one are.items f.rows
      (λ b c. chosen_from build_total (counts_for (is_above_drops s)) (builds_in s) (sorted_by (λ p. p) pair_order (map pair_of (builds_in s))) b (subst (λ l. Contains l b) h.rows c))
      (rows_of f) are.rows (of_rows f) (has_build f)

  drops_same : SameElements (filter_map (given_of Drop drop_of) xs) f.drops
  drops_same =
      same_given xs s one are.items drop_of (λ d. d.sender) (λ d. d.number) (λ m. drop_numbered m.sender m.number m.item) Drop drop_row (λ d. refl) f.drops
      (λ d c. chosen_from drop_total (λ p. is_drop_of p.0 p.1) (drops_in s) (sorted_by (λ p. p) pair_order (map drop_pair (drops_in s))) d (subst (λ l. Contains l d) h.drops c))
      (rows_of f) are.rows (of_drops f) (has_drop f)

  bugs_same : SameElements (filter_map (given_of Bug bug_of) xs) f.bugs
  bugs_same =
      same_given xs s one are.items bug_of (λ b. b.sender) (λ b. b.number) (λ m. bug_numbered m.sender m.number m.item) Bug bug_row (λ b. refl) f.bugs
      (λ b c. chosen_from bug_total (λ n b. b.bug == n) (bugs_in s) (sorted_by (λ n. n) nat_cmp (map (λ b. b.bug) (bugs_in s))) b (subst (λ l. Contains l b) h.bugs c))
      (rows_of f) are.rows (of_bugs f) (has_bug f)

  hints_same : SameElements (filter_map (given_of Hint hint_of) xs) f.hints
  hints_same =
      same_given xs s one are.items hint_of (λ b. b.sender) (λ b. b.number) (λ m. hint_numbered m.sender m.number m.item) Hint hint_row (λ b. refl) f.hints
      (λ x c. from_sorted hint_total (hints_in s) x (subst (λ l. Contains l x) h.hints c)) (rows_of f) are.rows (of_hints f) (has_hint f)

  unhints_same : SameElements (filter_map (given_of Unhint unhint_of) xs) f.unhints
  unhints_same =
      same_given xs s one are.items unhint_of (λ b. b.sender) (λ b. b.number) (λ m. unhint_numbered m.sender m.number m.item) Unhint unhint_row (λ b. refl) f.unhints
      (λ x c. from_sorted unhint_total (unhints_in s) x (subst (λ l. Contains l x) h.unhints c)) (rows_of f) are.rows (of_unhints f) (has_unhint f)

  delays_same : SameElements (filter_map (given_of Delays delays_of) xs) (option_to_list f.delays)
  delays_same =
      same_given xs s one are.items delays_of (λ b. b.sender) (λ b. b.number) (λ m. delays_numbered m.sender m.number m.item) Delays delays_row (λ b. refl) (option_to_list f.delays)
      (delays_from s f.delays h.delays) (rows_of f) are.rows (of_delays f) (to8 f)

  again : AreSameFacts f (restored_all xs no_facts)
  again = record {
    sources = field_all with_upload (given_of Source upload_of) (λ g. g.sources) (λ x g. refl) xs no_facts
        ∙ put_all_is (λ u. u.source) text_order with_upload puts_upload (filter_map (given_of Source upload_of) xs) f.sources (subst AreBySource (sym h.sources) (sources_order (uploads_in s))) sources_same;
    uploads = subst (λ us. SameElements us f.uploads)
        (sym (field_all with_kept (given_of Upload upload_of) (λ g. g.uploads) (λ x g. refl) xs no_facts))
        (put_all_same (λ u. u) message_total with_kept puts_kept (filter_map (given_of Upload upload_of) xs) f.uploads (λ u v c d e. message_tied u v e) uploads_same);
    rows = field_all with_build build_given (λ g. g.rows) (λ x g. refl) xs no_facts
        ∙ put_all_is pair_of pair_total with_build puts_build (filter_map build_given xs) f.rows (subst AreByPair (sym h.rows) (rows_order (is_above_drops s) (builds_in s))) rows_same;
    drops = field_all with_greatest (given_of Drop drop_of) (λ g. g.drops) (λ x g. refl) xs no_facts
        ∙ put_all_is drop_pair pair_total with_greatest puts_drop (filter_map (given_of Drop drop_of) xs) f.drops (subst AreDropsByPair (sym h.drops) (drops_order (drops_in s))) drops_same;
    bugs = field_all with_bug (given_of Bug bug_of) (λ g. g.bugs) (λ x g. refl) xs no_facts
        ∙ put_all_is (λ b. b.bug) nat_cmp_total with_bug puts_bug (filter_map (given_of Bug bug_of) xs) f.bugs (subst AreByNumber (sym h.bugs) (bugs_order (bugs_in s))) bugs_same;
    hints = field_all with_hint (given_of Hint hint_of) (λ g. g.hints) (λ x g. refl) xs no_facts
        ∙ put_all_is (λ x. x) hint_total with_hint (puts_by hint_total) (filter_map (given_of Hint hint_of) xs) f.hints (subst (IsInOrder (λ x. x) hint_total) (sym h.hints) (sorted_order hint_total (hints_in s))) hints_same;
    unhints = field_all with_unhint (given_of Unhint unhint_of) (λ g. g.unhints) (λ x g. refl) xs no_facts
        ∙ put_all_is (λ x. x) unhint_total with_unhint (puts_by unhint_total) (filter_map (given_of Unhint unhint_of) xs) f.unhints
        (subst (IsInOrder (λ x. x) unhint_total) (sym h.unhints) (sorted_order unhint_total (unhints_in s))) unhints_same;
    delays = delays_all xs no_facts ∙ last_is f.delays (filter_map (given_of Delays delays_of) xs) delays_same;
  }

-- facts that are the same stand for the same
pub same_stand : (f g : FactLists) (s : Covered) (t : Suite) → AreSameFacts f g → StandsFor f s t → StandsFor g s t
same_stand f g s t a h = record {
  sources = a.sources ∙ h.sources;
  rows = a.rows ∙ h.rows;
  drops = a.drops ∙ h.drops;
  bugs = a.bugs ∙ h.bugs;
  hints = a.hints ∙ h.hints;
  unhints = a.unhints ∙ h.unhints;
  delays = a.delays ∙ h.delays;
  are_uploads = λ u c. h.are_uploads u (a.uploads.0 u c);
  counted = λ u c news. a.uploads.1 u (h.counted u c news);
}

pub rows_determine : (f : FactLists) (s : Covered) (t : Suite) (xs : List Given) → HasOneOfEach s → StandsFor f s t → AreRowsOf xs f s
    → AreSameFacts f (restored_all xs no_facts) × StandsFor (restored_all xs no_facts) s t
rows_determine f s t xs one h are = let same = again f s t xs one h are in (same, same_stand f (restored_all xs no_facts) s t same h)
