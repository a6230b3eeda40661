-- Tests of rows that are lent.
use Rattle.std.specs.Prelude.{Bool, true, false, List, [], ◌∷◌, filter}
use Rattle.std.proofs.Common.{◌≡◌, refl}
use Rattle.testing_rules_model.specs.declared.suite.RowIn.{RowIn}
use Rattle.testing_rules_model.specs.declared.suite.LentRow.{LentRow}
use Rattle.testing_rules_model.specs.JudgedRows.{row_of, lent}

module _ (p : RowIn → Bool) where
  passing_at : (b : Bool) (r : LentRow) (rows : List LentRow) → p (row_of r) ≡ b → lent (filter (λ x. p (row_of x)) rows) ≡ filter p (lent rows)
      → lent (filter (λ x. p (row_of x)) (r ∷ rows)) ≡ filter p (lent (r ∷ rows))
  passing_at true r rows e more = rw (e, more) refl
  passing_at false r rows e more = rw (e, more) refl

  -- those that pass a test
  pub passing-lent : (rows : List LentRow) → lent (filter (λ x. p (row_of x)) rows) ≡ filter p (lent rows)
  passing-lent [] = refl
  passing-lent (r ∷ rows) = passing_at _ r rows refl (passing-lent rows)
