-- The names of rows that fail, and the first of them.
use Rattle.std.proofs.Common.{◌≡◌, ℕ, List, [], ◌∷◌, map, filter, Option, Some, None, refl, ap}
use Rattle.std.specs.Prelude.{◌↔◌, option_map}
use Rattle.testing_rules_items.specs.Words.{Text, byte_cmp, least, lesser}
use Rattle.testing_rules_model.specs.declared.suite.RowIn.{RowIn}
use Rattle.testing_rules_model.specs.declared.update.Offender.{Offender}
use Rattle.testing_rules_model.specs.Moves.{RowAnswer, fails_on, judged_on, offender_on, first_failing}
use Rattle.office_core_breaks.specs.Breaks.{broken_on}

names_same : (xs : List RowAnswer) → map (λ j. j.row.binary.name) xs ≡ map (λ r. r.binary.name) (map (λ j. j.row) xs)
names_same [] = refl
names_same (x ∷ xs) = ap (λ names. x.row.binary.name ∷ names) (names_same xs)

pub first_named : (arch : ℕ) (group : List Text) (old new : List RowIn)
    → first_failing arch group (judged_on arch old) (judged_on arch new) ≡ least byte_cmp (map (λ r. r.binary.name) (broken_on arch group old new))
first_named arch group old new = ap (least byte_cmp) (names_same (filter (fails_on arch group (judged_on arch old)) (judged_on arch new)))

abbrev as_offender : ℕ → Text → Offender
as_offender arch n = record { arch = arch; «package» = n }

some_named : (arch : ℕ) (n : Text) (o : Option Text) → option_map (as_offender arch) (lesser byte_cmp n o) ≡ None → ⊥
some_named arch n None e = absurd (cc)
some_named arch n (Some m) e = absurd (cc)

by_list : (arch : ℕ) (xs : List RowAnswer) → (option_map (as_offender arch) (least byte_cmp (map (λ j. j.row.binary.name) xs)) ≡ None) ↔ (map (λ j. j.row) xs ≡ [])
by_list arch [] = (λ e. refl, λ e. refl)
by_list arch (x ∷ xs) = (λ e. absurd (some_named arch x.row.binary.name (least byte_cmp (map (λ j. j.row.binary.name) xs)) e), λ e. absurd (cc))

pub none_broken : (arch : ℕ) (group : List Text) (old new : List RowIn) → (offender_on old new group arch ≡ None) ↔ (broken_on arch group old new ≡ [])
none_broken arch group old new = by_list arch (filter (fails_on arch group (judged_on arch old)) (judged_on arch new))
