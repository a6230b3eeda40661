-- Rows that a groundless list names aren't installable either among fewer rows.
use Rattle.std.proofs.Common.{◌≡◌, ℕ, zero, suc, ◌<◌, Bool, true, List, length, Some, sym, refl, ap, ◌∙◌, arith}
use Rattle.std.specs.List.{slice_get}
use Rattle.std.proofs.lemmas.Option.{same_Some}
use Rattle.deb_control.specs.declared.binary.Binary.{Binary}
use Rattle.testing_install.specs.Closed.{IsMet, IsClosed, IsInstallable}
use Rattle.testing_install_why.specs.declared.Step.{Step}
use Rattle.testing_install_why.specs.Certificate.{IsShownBy, everywhere}
use Rattle.testing_install_why.specs.Order.{IsGroundless}
use Rattle.testing_install_why.proofs.Taking.{all_at, at_end}

-- the others are all among the rows, and the set of others is closed
module _ (rows others : List Binary) (steps : List Step) (among : (k : ℕ) (row : Binary) → slice_get others k ≡ Some row → (p : ℕ) × (slice_get rows p ≡ Some row)) where
  -- so the set has no row of the list: what would meet its clause stands earlier
  out : IsGroundless rows everywhere steps → (set : ℕ → Bool) → IsClosed others set → (m n : ℕ) (step : Step) → n < m → slice_get steps n ≡ Some step
      → (k : ℕ) (row : Binary) → slice_get others k ≡ Some row → slice_get rows step.place ≡ Some row → set k ≡ true → ⊥
  out g set closed zero n step h at k row there here on = absurd (omega (arith, h))
  out g set closed (suc m) n step h at k row there here on =
      let f = g.each n step at in
      let same : row ≡ f.is.row = same_Some row f.is.row (sym here ∙ f.is.stands) in
      let met : IsMet others set f.is.clause = all_at (IsMet others set) f.is.row.clauses step.need f.is.clause f.is.needs (closed k f.is.row (there ∙ ap Some same) on) in
      let p = among met.0 met.1 met.2 in
      let b = f.unmet p.0 met.1 p.1 refl met.4 in
      out g set closed m b.number b.step (omega (arith, h, b.earlier)) b.stands met.0 met.1 met.2 (ap (slice_get rows) b.same ∙ p.1) met.3

  -- a row that is shown not to be installable among the rows isn't among the others
  pub bounded : (place : ℕ) → IsShownBy rows everywhere place steps → (k : ℕ) (row : Binary) → slice_get others k ≡ Some row → slice_get rows place ≡ Some row
      → IsInstallable others k → ⊥
  bounded place s k row there here i =
      let at : slice_get steps (length s.front) ≡ Some s.last = ap (λ xs. slice_get xs (length s.front)) s.ends ∙ at_end s.front s.last in
      out s.groundless i.0 i.1 (suc (length s.front)) (length s.front) s.last (omega arith) at k row there (ap (slice_get rows) s.same ∙ here) i.3
