-- What the statements on mail do.
use Rattle.std.proofs.Common.{◌≡◌, ◌⊎◌, inl, inr, ℕ, ℤ, pos, List, [], ◌∷◌, map, filter, filter_map, length, Bool, true, false, ◌&&◌, Some, None, Option, Ok, Err, Result, IfOk, refl, sym, ap, subst, ◌∙◌, arith}
use Rattle.sqlite_tied.proofs.RuleLemmas.{and_true}
use Rattle.std.specs.List.Sorted.{IsPermutation}
use Rattle.std.proofs.lemmas.List.{length-map}
use Rattle.std.proofs.lemmas.List.Sorted.{length_permutation}
use Rattle.std.specs.FinMap.{find, get}
use Rattle.sqlite_trees.proofs.ListLemmas.{all-permutation}
use Rattle.sqlite_rules.specs.Lists.{Has}
use Rattle.sqlite_rules.proofs.ListLemmas.{all_has, all_from, has_filtered}
use Rattle.std.specs.Ordering.{is_eq}
use Rattle.sqlite.specs.declared.types.Value.{Value}
use Rattle.sqlite.specs.declared.types.Value.TheVariants.{Null, Int, Real, Text, Blob}
use Rattle.sqlite.specs.Order.{Row, column, value_cmp}
use Rattle.sqlite_sql.specs.declared.ops.BinaryOp.TheVariants.{Compare}
use Rattle.sqlite_sql.specs.declared.ops.CompareOp.TheVariants.{Eq}
use Rattle.sqlite.specs.Collation.TheVariants.{Binary}
use Rattle.sqlite.specs.Ops.{binary, is_true, from_truth}
use Rattle.sqlite.specs.Program.{overlay}
use Rattle.sqlite.specs.State.{State, Shown}
use Rattle.sqlite.specs.Effect.{Answers}
use Rattle.sqlite.proofs.Callers.{reads_as}
use Rattle.office_mail.specs.Kept.{place_cmp}
use Rattle.office_mail.proofs.KeptFacts.{exact_places}
use Rattle.office_store_testing_tables.proofs.KeyedFacts.{tied}
use Rattle.office_store_testing_tables.specs.Layout.{office_schema}
use Rattle.office_store_testing_tables.specs.steps.Texts.{find_text}
use Rattle.office_store_testing_tables.specs.Tables.{letter_in, kept_rows}
use Rattle.office_store_testing_tables.specs.steps.TableSteps.{is_at, letter_columns, IsOnly, IsCrowded}
use Rattle.office_store_testing_tables.proofs.Compiled.{find_query, find_is, find_plain}
use Rattle.office_store_testing_tables.proofs.Answered.{passes, plain_answer}
use Rattle.office_store_testing_tables.proofs.LetterFacts.{kept_at, letter_found, letter_of_parts, letter_parts, at_place}

pub truth_is : (b : Bool) → is_true (from_truth (Some b)) ≡ b
truth_is true = refl
truth_is false = refl

-- SQL's = at an integer
pub equal_is : (v : Value) (m : ℤ) → is_true (binary (Compare Eq Binary) v (Int m)) ≡ is_eq (value_cmp v (Int m))
unfolding binary value_cmp
equal_is Null m = refl
equal_is (Int n) m = truth_is _
equal_is (Real x) m = truth_is _
equal_is (Text t) m = truth_is _
equal_is (Blob b) m = truth_is _

pub filter_same : {X : Type 0} (p q : X → Bool) → ((x : X) → p x ≡ q x) → (xs : List X) → filter p xs ≡ filter q xs
filter_same p q same [] = refl
filter_same p q same (x ∷ xs) = rw (same x, filter_same p q same xs)

at_passes : (sender number : ℕ) (row : Row) → passes find_query.filter (Int (pos sender) ∷ Int (pos number) ∷ []) row ≡ is_at sender number row
at_passes sender number row = rw (equal_is (column row 1) (pos sender), equal_is (column row 2) (pos number)) (ap (λ b. is_eq (value_cmp (column row 1) (Int (pos sender))) && b) (and_true _))

pub filter_all : {X : Type 0} (p : X → Bool) → ((x : X) → p x ≡ true) → (xs : List X) → filter p xs ≡ xs
filter_all p all [] = refl
filter_all p all (x ∷ xs) = rw (all x, filter_all p all xs) refl

pub finds_rows : (sender number : ℕ) (old new : State) (rows : List Row) → old.now.schema ≡ office_schema → Shown find_text (Int (pos sender) ∷ Int (pos number) ∷ []) old new rows
    → IsPermutation (map letter_columns (filter (is_at sender number) (old.now.trees 1))) rows
finds_rows sender number old new rows has h =
    let params = Int (pos sender) ∷ Int (pos number) ∷ [] in
    let got : Answers old.now (record { lets = []; body = find_query }) params rows = reads_as find_text params old new office_schema has _ find_is find_plain.0 find_plain.1 rows h in
    let answer = plain_answer 1 find_query.filter find_query.project (overlay old.now.trees []) params rows (got.answer Null) in
    subst (λ l. IsPermutation (map letter_columns l) rows) (filter_same _ _ (at_passes sender number) (old.now.trees 1)) answer

-- ---- what the rows that are shown say

pub has_permuted : {X : Type 0} (xs ys : List X) (x : X) → IsPermutation xs ys → Has ys x → Has xs x
has_permuted xs ys x same = all_has (Has xs) ys x (all-permutation (Has xs) xs ys same (all_from (Has xs) xs (λ e h. h)))

-- a list of no element, and a list of one
pub empty_of : {X : Type 0} (xs : List X) → length xs ≡ 0 → xs ≡ []
empty_of [] h = refl
empty_of (x ∷ xs) h = absurd (omega (arith, h))

pub single_of : {X : Type 0} (xs : List X) → length xs ≡ 1 → (x : X) × (xs ≡ x ∷ [])
single_of [] h = absurd (omega (arith, h))
single_of (x ∷ []) h = (x, refl)
single_of (x ∷ y ∷ xs) h = absurd (omega (arith, h))

-- as many rows are shown as there are
pub as_many : {X Y : Type 0} (f : X → Y) (xs : List X) (ys : List Y) → IsPermutation (map f xs) ys → length xs ≡ length ys
as_many {X} {Y} f xs ys same = omega (arith, length_permutation _ _ same, length-map {A = X} {B = Y})

-- the only row that is shown is that of the only one that there is
pub only_shown : {X Y : Type 0} (f : X → Y) (xs : List X) (y : Y) → IsPermutation (map f xs) (y ∷ []) → (x : X) × (xs ≡ x ∷ []) × (y ≡ f x)
only_shown f xs y same =
    let one = single_of xs (as_many f xs (y ∷ []) same) in
    let there = has_permuted (map f xs) (y ∷ []) y same (inl refl) in
    let first : (y ≡ f one.0) ⊎ ⊥ = subst (λ l. Has (map f l) y) one.1 there in
    (one.0, one.1, elim first [ inl is ↦ is | inr none ↦ absurd none ])

module _ (rows : List Row) (sender number : ℕ) where
  abbrev Shows : List Row → Type 0
  Shows shown = IsPermutation (map letter_columns (filter (is_at sender number) rows)) shown

  pub finds_from : (o : Option (List ℕ)) (shown : List Row) → Shows shown → IsOnly sender number o shown → o ≡ get (kept_rows rows) (sender, number)
  finds_from None shown same none =
      let gone : filter (is_at sender number) rows ≡ [] = empty_of _ (as_many letter_columns _ shown same ∙ ap length none) in
      sym (kept_at sender number rows ∙ ap (λ l. find place_cmp (sender, number) (filter_map letter_in l)) gone)
  finds_from (Some text) shown same only =
      let one = only_shown letter_columns (filter (is_at sender number) rows) only.0 (subst Shows only.1 same) in
      let says = letter_of_parts one.0 sender number text (ap (λ r. column r 0) (sym one.2) ∙ only.2) (ap (λ r. column r 1) (sym one.2) ∙ only.3) (ap (λ r. column r 2) (sym one.2) ∙ only.4) in
      sym (kept_at sender number rows ∙ ap (λ l. find place_cmp (sender, number) (filter_map letter_in l)) one.1 ∙ letter_found sender number one.0 text says)

  pub crowded_from : (shown : List Row) → Shows shown → (shown ≡ [] → ⊥) → ((text : List ℕ) → shown ≡ (Int (pos sender) ∷ Int (pos number) ∷ Blob text ∷ []) ∷ [] → ⊥) → IsCrowded rows
  crowded_from [] same none one letters keyed = none refl
  crowded_from (r ∷ []) same none one letters keyed =
      let o = only_shown letter_columns (filter (is_at sender number) rows) r same in
      let f = has_filtered (is_at sender number) rows o.0 (subst (λ l. Has l o.0) (sym o.1) (inl refl)) in
      let l = letters o.0 f.0 in
      let e = letter_parts o.0 l.0.0 l.0.1 l.1 in
      let here : l.0.0 ≡ (sender, number) = sym (exact_places (sender, number) l.0.0 (tied (place_cmp (sender, number) l.0.0) (at_place sender number o.0 l.0.0 l.0.1 l.1 ∙ f.1))) in
      one l.0.1 (ap (λ x. x ∷ []) (o.2 ∙ rw (e.0, e.1, e.2) (rw here refl)))
  crowded_from (a ∷ b ∷ more) same none one letters keyed =
      absurd (omega (arith, keyed sender number, as_many letter_columns (filter (is_at sender number) rows) (a ∷ b ∷ more) same))

pub found_is : {F : Type 0} (rows : List Row) (sender number : ℕ) (result : Result (Option (List ℕ)) F) (shown : List Row) → IsPermutation (map letter_columns (filter (is_at sender number) rows)) shown
    → IfOk result (λ o. IsOnly sender number o shown) → IfOk result (λ o. o ≡ get (kept_rows rows) (sender, number))
found_is rows sender number (Ok o) shown same only = finds_from rows sender number o shown same only
found_is rows sender number (Err e) shown same only = tt
