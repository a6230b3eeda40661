-- The step of one row among those of a list.
use Rattle.std.proofs.Common.{◌≡◌, ℕ, ◌+◌, ◌<◌, ◌≤◌, Bool, List, length, Some, sym, ap, ◌∙◌, inl, inr, arith}
use Rattle.std.specs.List.{slice_get}
use Rattle.std.proofs.lemmas.Bool.{cases_lt}
use Rattle.std.proofs.lemmas.Option.{same_Some}
use Rattle.deb_control.specs.declared.binary.Binary.{Binary}
use Rattle.testing_install_why.specs.declared.Step.{Step}
use Rattle.testing_install_why.specs.steps.Providers.{IsStepOf}
use Rattle.testing_install_why.specs.Certificate.{IsShownBy}
use Rattle.testing_install_why.specs.steps.Certificate.{IsCertificate}
use Rattle.testing_install_why.specs.Order.{IsNamed, IsGroundless}

-- none of the first n steps has the row at the place
pub record IsNotBelow (steps : List Step) (place n : ℕ) : Type 0 where
  pub each : (m : ℕ) (step : Step) → m < n → slice_get steps m ≡ Some step → step.place ≡ place → ⊥

pub not_below_none : (steps : List Step) (place : ℕ) → IsNotBelow steps place 0
not_below_none steps place = record { each = λ m step h. absurd (omega (arith, h)) }

pub not_below_more : (steps : List Step) (place n : ℕ) (step : Step) → IsNotBelow steps place n → slice_get steps n ≡ Some step → (step.place ≡ place → ⊥) → IsNotBelow steps place (n + 1)
not_below_more steps place n step b at other = record {
  each = λ m s h is same. elim (cases_lt m n) [
    | inl less ↦ b.each m s less is same
    | inr not ↦ (
        let one : m ≡ n = omega (arith, h, not) in
        let alike : s ≡ step = same_Some s step (sym is ∙ ap (slice_get steps) one ∙ at) in
        other (sym (ap (λ (x : Step). x.place) alike) ∙ same))
  ];
}

pub not_named : (steps : List Step) (place n : ℕ) → IsNotBelow steps place n → length steps ≤ n → IsNamed steps (length steps) place → ⊥
not_named steps place n b h named = b.each named.number named.step (omega (arith, named.earlier, h)) named.stands named.same

pub shown : (rows : List Binary) (there : ℕ → Bool) (order steps : List Step) (last place : ℕ) → IsGroundless rows there order → (s : IsStepOf order last place) → ((step : Step) → slice_get order last ≡ Some step → IsCertificate rows order step steps) → IsShownBy rows there place steps
shown rows there order steps last place g s certify =
    let c = certify s.step s.is in
    record { front = c.front; last = s.step; ends = c.ends; same = s.same; groundless = c.groundless there g }
