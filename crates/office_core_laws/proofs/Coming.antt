-- What a run brings into testing is unstable's.
use Rattle.std.specs.Prelude.{ℕ, Bool, true, false, not, List, [], ◌∷◌, ◌++◌, Contains, Option, Some, None, cond, map, filter, find, fold, nat_lt}
use Rattle.std.specs.List.{AllByRecursion, flat_map}
use Rattle.std.specs.Str.{bytes_eq}
use Rattle.std.proofs.Common.{◌≡◌, ◌⊎◌, refl, sym, ap, ◌∙◌, subst, inl, inr}
use Rattle.std.proofs.lemmas.Bool.{false≢true}
use Rattle.std.proofs.lemmas.Option.{same_Some}
use Rattle.std.proofs.lemmas.Slice.Eq.{bytes_eq-Decides}
use Rattle.jiff_core.specs.declared.civil.date.Date.{Date}
use Rattle.testing_rules_items.specs.Words.{Text, byte_cmp, is_empty, only_if, sorted_by}
use Rattle.testing_rules_items.proofs.Each.{each-append, each-filter, each-put, each-put_all, each-weaker}
use Rattle.testing_rules_items.proofs.Members.{none_among, head_of, tail_of}
use Rattle.testing_rules_model.specs.declared.excuse.Excuse.{Excuse}
use Rattle.testing_rules_model.specs.declared.excuse.Reason.{Reason}
use Rattle.testing_rules_model.specs.declared.excuse.Reason.TheVariants.{TooYoung, NewBug, NoBinaries, MissingOn, Blocked, RemovalAsked}
use Rattle.testing_rules_model.specs.declared.facts.BugIn.{BugIn}
use Rattle.testing_rules_model.specs.declared.facts.HintIn.{HintIn}
use Rattle.testing_rules_model.specs.declared.facts.UploadIn.{UploadIn}
use Rattle.testing_rules_model.specs.declared.suite.RowIn.{RowIn}
use Rattle.testing_rules_model.specs.declared.suite.SourceIn.{SourceIn}
use Rattle.testing_rules_model.specs.Covered.{Covered, uploads_in}
use Rattle.testing_rules_model.specs.Excuses.{days_needed, age_of, excuses_of, has_current, is_news, reasons_of, testing_version, is_new_bug, is_missing_on, is_blocked, is_removal_asked}
use Rattle.testing_rules_model.specs.steps.Grounds.{Ground, excuse_on, ground_of}
use Rattle.testing_rules_model.specs.Moves.{as_source, group_sources, is_row_of, move_group, put_source, remove_source, row_cmp, row_key, source_in}
use Rattle.testing_rules_model.specs.Suite.{Suite}
use Rattle.testing_rules_model.specs.Unstable.{is_current, hints_by_number, place_numbers, unhints_by_number, unstable_rows, unstable_source, unstable_sources}
use Rattle.testing_rules_model.specs.Updates.{update_of}
use Rattle.testing_rules_model.proofs.ByName.{source-found}
use Rattle.testing_rules_model.proofs.Chosen.{least-passes}
use Rattle.testing_rules_model.specs.Unstable.{upload_order}
use Rattle.testing_rules_model.proofs.Least.{from_filter, to_filter}
use Rattle.testing_rules_model.proofs.Sets.{first_or_rest, given_by, mapped_from, maps}
use Rattle.office_core_laws.specs.FromUnstable.{built_sources, IsFromUnstable}
use Rattle.office_core_laws.proofs.Candidates.{IsFree, run_keeps}

-- Lists.

each_of : {A : Type 0} (P : A → Type 0) (xs : List A) → ((x : A) → Contains xs x → P x) → AllByRecursion P xs
each_of P [] h = tt
each_of P (x ∷ xs) h = (h x (head_of x xs), each_of P xs (λ y c. h y (tail_of x xs y c)))

of_each : {A : Type 0} (P : A → Type 0) (xs : List A) → AllByRecursion P xs → (x : A) → Contains xs x → P x
of_each P [] h x c = none_among x c
of_each P (y ∷ xs) h x c = elim (first_or_rest y xs x c) [
  | inl own ↦ subst P own h.0
  | inr among ↦ of_each P xs h.1 x among
]

passing : {A : Type 0} (P : A → Type 0) (test : A → Bool) (xs : List A) → AllByRecursion P xs → AllByRecursion P (filter test xs)
passing P test xs h = each-filter P test xs (each-weaker P (λ x. test x ≡ true → P x) (λ x p on. p) xs h)

no_front : {A : Type 0} (xs ys : List A) → is_empty (xs ++ ys) ≡ true → is_empty ys ≡ true
no_front [] ys h = h
no_front (x ∷ xs) ys h = absurd (false≢true h)

no_back : {A : Type 0} (xs ys : List A) → is_empty (xs ++ ys) ≡ true → is_empty xs ≡ true
no_back [] ys h = refl
no_back (x ∷ xs) ys h = absurd (false≢true h)

only_if_empty : {A : Type 0} (b : Bool) (x : A) → is_empty (only_if (not b) x) ≡ true → b ≡ true
only_if_empty true x h = refl
only_if_empty false x h = absurd (false≢true h)

-- A source without a reason against it has a current row.
free_is_current : (places : List ℕ) (rows : List RowIn) (bugs : List BugIn) (hints : List HintIn) (testing : Option Text) (young : Bool) (u : UploadIn)
    → is_empty (reasons_of places rows bugs hints testing young u) ≡ true → has_current rows u ≡ true
free_is_current places rows bugs hints testing young u h =
    let youth : List Reason = only_if young TooYoung in
    let faults : List Reason = map (λ b. NewBug b.bug) (filter (is_new_bug testing u) bugs) in
    let none : List Reason = only_if (not (has_current rows u)) NoBinaries in
    let missing : List Reason = map (λ a. MissingOn a) (filter (is_missing_on rows u) places) in
    let blocked : List Reason = only_if (is_blocked hints u) Blocked in
    let removal : List Reason = only_if (is_removal_asked hints testing u) RemovalAsked in
    only_if_empty (has_current rows u) NoBinaries
    (no_front (youth ++ faults) none
    (no_back (youth ++ faults ++ none) missing
    (no_back (youth ++ faults ++ none ++ missing) blocked (no_back (youth ++ faults ++ none ++ missing ++ blocked) removal h))))

module _ (archs : List Text) (s : Covered) where
  abbrev rows : List RowIn
  rows = unstable_rows archs s

  -- unstable's source is the one of its name
  source_of_name : (u : UploadIn) → Contains (unstable_sources s) u → unstable_source s u.source ≡ Some u
  source_of_name u c =
      let n = given_by (unstable_source s) (sorted_by (λ name. name) byte_cmp (map (λ (v : UploadIn). v.source) (uploads_in s))) u c in
      let same : u.source ≡ n.0 = (bytes_eq-Decides u.source n.0).0 (least-passes upload_order (λ (v : UploadIn). bytes_eq v.source n.0) (uploads_in s) u n.2) in
      ap (unstable_source s) same ∙ n.2

  -- the source of unstable with the name of a candidate has a current row
  free_source : (t : Suite) (date : Date) (name : Text) (u : UploadIn) → IsFree (excuses_of archs s t date) name → source_in (unstable_sources s) name ≡ Some u → has_current rows u ≡ true
  free_source t date name u free is =
      let given = mapped_from (λ (v : UploadIn). excuse_on (place_numbers archs) (ground_of archs s date) (testing_version t v.source) v)
      (filter (λ (v : UploadIn). is_news (testing_version t v.source) v.version) (unstable_sources s)) free.excuse free.among in
      let v = given.0 in
      let among = (from_filter (λ (w : UploadIn). is_news (testing_version t w.source) w.version) (unstable_sources s) v given.1).0 in
      let named : v.source ≡ name = ap (λ (e : Excuse). e.source) given.2 ∙ free.named in
      let one : v ≡ u = same_Some v u (sym (source_of_name v among) ∙ ap (unstable_source s) named ∙ sym (source-found (uploads_in s) name) ∙ is) in
      let g : Ground = ground_of archs s date in
      let testing : Option Text = testing_version t v.source in
      let needed : ℕ = days_needed g.delays g.hints g.uploads testing v in
      let empty : is_empty (reasons_of (place_numbers archs) g.rows g.bugs g.hints testing (nat_lt (age_of g.date v) needed) v) ≡ true =
      ap (λ (e : Excuse). is_empty e.reasons) given.2 ∙ free.free in
      subst (λ (w : UploadIn). has_current rows w ≡ true) one
      (free_is_current (place_numbers archs) g.rows g.bugs g.hints testing (nat_lt (age_of g.date v) needed) v empty)

  module _ (old : Suite) (date : Date) where
    abbrev Source : SourceIn → Type 0
    Source x = Contains old.sources x ⊎ Contains (built_sources archs s) x

    abbrev Row : RowIn → Type 0
    Row r = Contains old.rows r ⊎ Contains rows r

    abbrev Has : Suite → Type 0
    Has t = AllByRecursion Source t.sources × AllByRecursion Row t.rows

    removal_has : (name : Text) (t : Suite) → Has t → Has (remove_source name t)
    removal_has name t h =
        (passing Source (λ (x : SourceIn). not (bytes_eq x.name name)) t.sources h.0, passing Row (λ (r : RowIn). not (bytes_eq r.binary.source name)) t.rows h.1)

    puts_have : (us : List UploadIn) (xs : List SourceIn) → ((u : UploadIn) → Contains us u → Source (as_source u)) → AllByRecursion Source xs → AllByRecursion Source (fold (λ ys u. put_source (as_source u) ys) xs us)
    puts_have [] xs h g = g
    puts_have (u ∷ us) xs h g =
        puts_have us (put_source (as_source u) xs) (λ v c. h v (tail_of u us v c))
        (each-put Source (λ (x : SourceIn). x.name) byte_cmp (as_source u) xs (h u (head_of u us)) g)

    unstable_have : AllByRecursion Row rows
    unstable_have = each_of Row rows (λ r c. inr c)

    arriving_have : (us : List UploadIn) → AllByRecursion Row (flat_map (λ u. filter (is_current u) rows) us)
    arriving_have [] = tt
    arriving_have (u ∷ us) = each-append Row (filter (is_current u) rows) (flat_map (λ v. filter (is_current v) rows) us) (passing Row (is_current u) rows unstable_have) (arriving_have us)

    group_source : (group : List Text) → AllByRecursion (IsFree (excuses_of archs s old date)) group → (u : UploadIn) → Contains (group_sources (unstable_sources s) group) u → Source (as_source u)
    group_source group free u c =
        let n = given_by (source_in (unstable_sources s)) group u c in
        let current = free_source old date n.0 u (of_each (IsFree (excuses_of archs s old date)) group free n.0 n.1) n.2 in
        let among : Contains (unstable_sources s) u = found_among (λ (v : UploadIn). bytes_eq v.source n.0) (unstable_sources s) u n.2 in
        inr (maps as_source (filter (has_current rows) (unstable_sources s)) u (to_filter (has_current rows) (unstable_sources s) u among current))
      where
        found_at : {A : Type 0} (test : A → Bool) (x : A) (b : Bool) (xs : List A) (v : A) → cond b (Some x) (find test xs) ≡ Some v → (find test xs ≡ Some v → Contains xs v) → Contains (x ∷ xs) v
        found_at test x true xs v h more = subst (Contains (x ∷ xs)) (same_Some x v h) (head_of x xs)
        found_at test x false xs v h more = tail_of x xs v (more h)

        found_among : {A : Type 0} (test : A → Bool) (xs : List A) (v : A) → find test xs ≡ Some v → Contains xs v
        found_among test [] v h = let no : None ≡ Some v = h in cc
        found_among test (x ∷ xs) v h = found_at test x (test x) xs v h (found_among test xs v)

    move_has : (group : List Text) (t : Suite) → AllByRecursion (IsFree (excuses_of archs s old date)) group → Has t → Has (move_group (unstable_sources s) rows group t)
    move_has group t free h = (
      puts_have (group_sources (unstable_sources s) group) t.sources (group_source group free) h.0,
      each-put_all Row row_key row_cmp (flat_map (λ u. filter (is_current u) rows) (group_sources (unstable_sources s) group)) (filter (λ r. not (is_row_of group r)) t.rows)
          (arriving_have (group_sources (unstable_sources s) group)) (passing Row (λ (r : RowIn). not (is_row_of group r)) t.rows h.1),
    )

    -- a run by the excuses of its date
    pub run_from : IsFromUnstable archs s old (update_of archs s (excuses_of archs s old date) old).suite
    run_from =
        let before : Has old = (each_of Source old.sources (λ x c. inl c), each_of Row old.rows (λ r c. inl c)) in
        let after = run_keeps Has archs (unstable_sources s) rows (excuses_of archs s old date) removal_has move_has (hints_by_number s) (unhints_by_number s) old before in
        let new : Suite = (update_of archs s (excuses_of archs s old date) old).suite in
        record { sources = of_each Source new.sources after.0; rows = of_each Row new.rows after.1 }
