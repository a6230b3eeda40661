-- How many rows have no lines, and which have.
use Rattle.std.proofs.Common.{◌≡◌, ℕ, true, false, List, [], ◌∷◌, ◌++◌, drop, length, take, refl, sym, ap, ◌∙◌, eqb-true, arith}
use Rattle.std.specs.Prelude.{◌==◌, codes, decimal}
use Rattle.std.specs.List.{flat_map}
use Rattle.std.proofs.lemmas.Bool.{true≢false}
use Rattle.std.proofs.lemmas.List.{drop-map, length-map, take-map}
use Rattle.testing_rules_model.specs.JudgedRows.{lent, row_of}
use Rattle.testing_rules_model.specs.declared.suite.LentRow.{LentRow}
use Rattle.testing_rules_model.specs.declared.suite.RowIn.{RowIn}
use Rattle.testing_rules_refusals.specs.Texts.{Known}
use Rattle.office_core_breaks.specs.Texts.{first_text, row_text, untold_text}

isnt_none : {A : Type 0} (x : A) (xs : List A) → (length (x ∷ xs) == 0) ≡ true → ⊥
isnt_none x xs e = let none : length (x ∷ xs) ≡ 0 = eqb-true (length (x ∷ xs)) 0 e in absurd (omega (arith, none))

pub none_untold : (rows : List LentRow) → (length rows == 0) ≡ true → untold_text (lent rows) ≡ []
none_untold [] e = refl
none_untold (r ∷ rows) e = absurd (isnt_none r rows e)

pub some_untold : (rows : List LentRow) → (length rows == 0) ≡ false → untold_text (lent rows) ≡ codes "and " ++ decimal (length rows) ++ codes " more" ++ 10 ∷ []
some_untold [] e = absurd (true≢false e)
some_untold (r ∷ rows) e = ap (λ n. codes "and " ++ decimal n ++ codes " more" ++ 10 ∷ []) (length-map (r ∷ rows) row_of)

-- the first hundred rows that are lent
pub first_lent : (k : Known) (unstable : List RowIn) (arch : ℕ) (rows : List LentRow)
    → flat_map (row_text k unstable arch) (lent (take 100 rows)) ++ untold_text (lent (drop 100 rows)) ≡ first_text k unstable arch (lent rows)
first_lent k unstable arch rows =
    ap (λ (xs : List RowIn). flat_map (row_text k unstable arch) xs ++ untold_text (lent (drop 100 rows))) (sym (take-map row_of 100 rows))
    ∙ ap (λ (xs : List RowIn). flat_map (row_text k unstable arch) (take 100 (lent rows)) ++ untold_text xs) (sym (drop-map row_of 100 rows))
