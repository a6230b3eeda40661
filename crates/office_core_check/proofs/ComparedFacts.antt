-- What is the same where reports, testing and the rows of facts are, and that kept facts have one set of rows.
use Rattle.std.proofs.Common.{◌≡◌, inl, inr, ℕ, zero, suc, ◌+◌, ◌<◌, ◌≤◌, Bool, true, false, cond, List, [], ◌∷◌, length, map, option_to_list, Some, slice_get, sym, ap, subst, ◌∙◌, refl, arith}
use Rattle.std.specs.Prelude.{Contains}
use Rattle.std.proofs.lemmas.List.Sums.{sum_by-cons}
use Rattle.testing_rules_items.proofs.Members.{none_among, tail_of}
use Rattle.testing_rules_model.proofs.Sets.{first_or_rest, at_front}
use Rattle.testing_rules_model.specs.declared.fact_row.FactRow.{FactRow}
use Rattle.testing_rules_model.specs.declared.facts.UploadIn.{UploadIn}
use Rattle.testing_rules_model.specs.Covered.{Covered}
use Rattle.testing_rules_model.specs.FactLists.{FactLists}
use Rattle.testing_rules_model.specs.FactRows.{is_row, rows_of, times, upload_row}
use Rattle.testing_rules_model.specs.steps.FactRows.{build_row, bug_row, delays_row, drop_row, hint_row, source_row, unhint_row}
use Rattle.testing_rules_model.specs.KeptFacts.{KeptFacts}
use Rattle.testing_rules_model.specs.Suite.{Suite}
use Rattle.testing_rules_facts.proofs.Shifting.{parts}
use Rattle.office_store_keeper.specs.Content.{item_from_one}
use Rattle.office_store_keeper.specs.FactSet.{FactSet, rows_in, set_of_rows}
use Rattle.office_store_keeper.proofs.FactSets.{set_of_rows-rows_in}

some_same : {A : Type 0} (x y : A) → Some x ≡ Some y → x ≡ y
some_same x y e = cc (e)

-- lists of one length with the same items
same_items : {A : Type 0} (xs ys : List A) → length xs ≡ length ys → ((k : ℕ) → k < length xs → slice_get xs k ≡ slice_get ys k) → xs ≡ ys
same_items [] [] size each = refl
same_items [] (y ∷ ys) size each = absurd (omega (arith, size))
same_items (x ∷ xs) [] size each = absurd (omega (arith, size))
same_items (x ∷ xs) (y ∷ ys) size each =
    let head : x ≡ y = some_same x y (each 0 (omega arith)) in
    let rest : xs ≡ ys = same_items xs ys (omega (arith, size)) (λ k low. each (suc k) (omega (arith, low))) in
    ap (λ z. z ∷ xs) head ∙ ap (λ zs. y ∷ zs) rest

-- the same, counted from 1
pub same_from_one : {A : Type 0} (xs ys : List A) (n : ℕ) → length xs ≡ n → length ys ≡ n → ((k : ℕ) → 1 ≤ k → k ≤ n → item_from_one k xs ≡ item_from_one k ys) → xs ≡ ys
same_from_one xs ys n one other each = same_items xs ys (one ∙ sym other) (λ k low. each (suc k) (omega arith) (omega (arith, low, one)))

-- sets with the same rows
pub same_sets : (a b : FactSet) → rows_in a ≡ rows_in b → a ≡ b
same_sets a b e = sym (set_of_rows-rows_in a) ∙ ap set_of_rows e ∙ set_of_rows-rows_in b

-- a row that counts is that of an element
counted_by : {A : Type 0} (row : A → FactRow) (r : FactRow) (b : Bool) (x : A) (xs : List A) → is_row r (row x) ≡ b → 1 ≤ cond b 1 0 + times r (map row xs)
    → (1 ≤ times r (map row xs) → (y : A) × Contains xs y × (is_row r (row y) ≡ true)) → (y : A) × Contains (x ∷ xs) y × (is_row r (row y) ≡ true)
counted_by row r true x xs e h rest = (x, at_front x x xs refl, e)
counted_by row r false x xs e h rest =
    let found = rest (omega (arith, h)) in
    (found.0, tail_of x xs found.0 found.1, found.2)

counted_in : {A : Type 0} (row : A → FactRow) (r : FactRow) (xs : List A) → 1 ≤ times r (map row xs) → (y : A) × Contains xs y × (is_row r (row y) ≡ true)
counted_in row r [] h = absurd (omega (arith, h))
counted_in row r (x ∷ xs) h =
    counted_by row r (is_row r (row x)) x xs refl (subst (λ n. 1 ≤ n) (sum_by-cons (λ y. cond (is_row r y) 1 0) (row x) (map row xs)) h) (counted_in row r xs)

-- and that of an element counts
in_counted : {A : Type 0} (row : A → FactRow) (r : FactRow) (xs : List A) (y : A) → Contains xs y → is_row r (row y) ≡ true → 1 ≤ times r (map row xs)
in_counted row r [] y c e = none_among y c
in_counted row r (x ∷ xs) y c e =
    let sum = sum_by-cons (λ z. cond (is_row r z) 1 0) (row x) (map row xs) in
    elim (first_or_rest x xs y c) [
      | inl same ↦
          let one : ◌≡◌ {A = ℕ} (cond (is_row r (row x)) 1 0) 1 = ap (λ z. cond (is_row r (row z)) 1 0) same ∙ ap (λ b. cond b 1 0) e in
          omega (arith, sum, one)
      | inr among ↦ let rest = in_counted row r xs y among e in omega (arith, sum, rest)
    ]

-- of two facts that are kept of the same mail beside one testing, each upload of the one is one of the other
kept_upload : (f g : FactLists) (s : Covered) (t : Suite) → KeptFacts f s t → KeptFacts g s t → (u : UploadIn) → Contains f.uploads u → Contains g.uploads u
kept_upload f g s t one other u c = other.stand.counted u (one.stand.are_uploads u c) (one.only u c)

kept_row : (f g : FactLists) (s : Covered) (t : Suite) → KeptFacts f s t → KeptFacts g s t → (r : FactRow) → 1 ≤ times r (map upload_row f.uploads) → 1 ≤ times r (map upload_row g.uploads)
kept_row f g s t one other r h =
    let found = counted_in upload_row r f.uploads h in
    in_counted upload_row r g.uploads found.0 (kept_upload f g s t one other found.0 found.1) found.2

same_mapped : {A : Type 0} (row : A → FactRow) (r : FactRow) (xs ys : List A) → xs ≡ ys → times r (map row xs) ≡ times r (map row ys)
same_mapped row r xs ys e = ap (λ zs. times r (map row zs)) e

at_most_once : (a b : ℕ) → (1 ≤ a → 1 ≤ b) → (1 ≤ b → 1 ≤ a) → a ≤ 1 → b ≤ 1 → a ≡ b
at_most_once zero zero up down low less = refl
at_most_once zero (suc b) up down low less = let one = down (omega arith) in omega (arith, one)
at_most_once (suc a) zero up down low less = let one = up (omega arith) in omega (arith, one)
at_most_once (suc a) (suc b) up down low less = omega (arith, low, less)

-- So they have the same rows where none stands twice.
pub kept_rows : (f g : FactLists) (s : Covered) (t : Suite) → KeptFacts f s t → KeptFacts g s t → (r : FactRow) → times r (rows_of f) ≤ 1 → times r (rows_of g) ≤ 1 → times r (rows_of f) ≡ times r (rows_of g)
kept_rows f g s t one other r few less =
    let all_f = parts r f in
    let all_g = parts r g in
    let sources = same_mapped source_row r f.sources g.sources (one.stand.sources ∙ sym other.stand.sources) in
    let rows = same_mapped build_row r f.rows g.rows (one.stand.rows ∙ sym other.stand.rows) in
    let drops = same_mapped drop_row r f.drops g.drops (one.stand.drops ∙ sym other.stand.drops) in
    let bugs = same_mapped bug_row r f.bugs g.bugs (one.stand.bugs ∙ sym other.stand.bugs) in
    let hints = same_mapped hint_row r f.hints g.hints (one.stand.hints ∙ sym other.stand.hints) in
    let unhints = same_mapped unhint_row r f.unhints g.unhints (one.stand.unhints ∙ sym other.stand.unhints) in
    let delays = same_mapped delays_row r (option_to_list f.delays) (option_to_list g.delays) (ap option_to_list (one.stand.delays ∙ sym other.stand.delays)) in
    let uploads : times r (map upload_row f.uploads) ≡ times r (map upload_row g.uploads) =
    at_most_once (times r (map upload_row f.uploads)) (times r (map upload_row g.uploads)) (kept_row f g s t one other r) (kept_row g f s t other one r) (omega (arith, all_f, few)) (omega (arith, all_g, less)) in
    omega (arith, all_f, all_g, sources, rows, drops, bugs, hints, unhints, delays, uploads)
