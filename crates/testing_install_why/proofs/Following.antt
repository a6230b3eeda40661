use Rattle.std.proofs.Common.{◌≡◌, ℕ, zero, suc, ◌<◌, Bool, true, List, [], ◌∷◌, length, Some, sym, ap, ◌∙◌, subst, inl, inr, arith}
use Rattle.std.specs.List.{slice_get}
use Rattle.std.proofs.lemmas.Option.{slice_get_within}
use Rattle.deb_control.specs.declared.binary.Binary.{Binary}
use Rattle.testing_install.specs.Among.{IsInstallableAmong}
use Rattle.testing_install.specs.Closed.{IsMet, IsClosed, IsInside, marked}
use Rattle.testing_install_why.specs.declared.Step.{Step}
use Rattle.testing_install_why.specs.Order.{IsGroundless}
use Rattle.testing_install_why.specs.steps.Chain.{IsIn, IsChain, IsBreak}
use Rattle.testing_install_why.proofs.Taking.{all_at, two_ways}
use Rattle.testing_install_why.proofs.Finding.{is_met}

-- the row that is met first is followed: it stands earlier, so this ends
follow : (rows : List Binary) (there : ℕ → Bool) (order : List Step) → IsGroundless rows there order → (m n : ℕ) (step : Step) → n < m → slice_get order n ≡ Some step → (rest : List Step) × IsChain rows there order step rest
follow rows there order g zero n step h at = absurd (omega (arith, h))
follow rows there order g (suc m) n step h at =
    let f = g.each n step at in
    let is_in : IsIn order step = record { number = n; stands = at } in
    elim (is_met rows there f.is.clause) [
      | inr unmet ↦ ([], (is_in, f.is, unmet))
      | inl met ↦ (
          let b = f.unmet met.0 met.1 met.2 met.3 met.4 in
          let r = follow rows there order g m b.number b.step (omega (arith, h, b.earlier)) b.stands in
          (b.step ∷ r.0, (is_in, f.is, record { row = met.1; stands = ap (slice_get rows) b.same ∙ met.2; here = ap there b.same ∙ met.3; does = met.4 }, r.1)))
    ]

pub followed : (rows : List Binary) (there : List Bool) (order : List Step) → length there ≡ length rows → IsGroundless rows (marked there) order → (n : ℕ) (step : Step) → slice_get order n ≡ Some step → (rest : List Step) × IsChain rows (marked there) order step rest
followed rows there order e g n step at = follow rows (marked there) order g (suc n) n step (omega arith) at

-- in a closed set of the rows before, what met the clause has left, or is broken too and stands earlier
leave : (rows : List Binary) (before after set : ℕ → Bool) (order : List Step) → IsGroundless rows after order → IsClosed rows set → IsInside rows set before → (m n : ℕ) (step : Step) → n < m → slice_get order n ≡ Some step → set step.place ≡ true → (rest : List Step) × IsBreak rows before after order step rest
leave rows before after set order g closed inside zero n step h at here = absurd (omega (arith, h))
leave rows before after set order g closed inside (suc m) n step h at here =
    let f = g.each n step at in
    let is_in : IsIn order step = record { number = n; stands = at } in
    let met : IsMet rows set f.is.clause = all_at (IsMet rows set) f.is.row.clauses step.need f.is.clause f.is.needs (closed step.place f.is.row f.is.stands here) in
    let was : IsInstallableAmong rows before met.0 = (set, closed, inside, slice_get_within rows met.0 met.1 met.2, met.3) in
    elim (two_ways (after met.0)) [
      | inr left ↦ ([], (is_in, f.is, met.0, record { row = met.1; stands = met.2; was = was; does = met.4 }, left))
      | inl stays ↦ (
          let b = f.unmet met.0 met.1 met.2 stays met.4 in
          let r = leave rows before after set order g closed inside m b.number b.step (omega (arith, h, b.earlier)) b.stands (ap set b.same ∙ met.3) in
          (b.step ∷ r.0, (is_in, f.is, record { row = met.1; stands = ap (slice_get rows) b.same ∙ met.2; was = subst (λ p. IsInstallableAmong rows before p) (sym b.same) was; does = met.4 }, ap after b.same ∙ stays, r.1)))
    ]

pub left_by : (rows : List Binary) (before after : ℕ → Bool) (order : List Step) → IsGroundless rows after order → (n : ℕ) (step : Step) → slice_get order n ≡ Some step → IsInstallableAmong rows before step.place → (rest : List Step) × IsBreak rows before after order step rest
left_by rows before after order g n step at i = leave rows before after i.0 order g i.1 i.2 (suc n) n step (omega arith) at i.4
