-- What is read off rows and steps shows that a row isn't installable.
use Rattle.std.proofs.Common.{◌≡◌, ℕ, ◌+◌, ◌<◌, ◌≤◌, List, length, Some, refl, sym, ap, ◌∙◌, subst, inl, inr, arith}
use Rattle.std.specs.List.{slice_get}
use Rattle.std.proofs.lemmas.Bool.{cases_lt}
use Rattle.std.proofs.lemmas.List.{length-map}
use Rattle.std.proofs.lemmas.Option.{slice_get_within, same_Some}
use Rattle.deb_control.specs.declared.binary.Binary.{Binary}
use Rattle.testing_install.specs.Rows.{binaries}
use Rattle.testing_install.specs.declared.Row.{Row}
use Rattle.testing_install_why.specs.Certificate.{IsShownBy, everywhere}
use Rattle.testing_install_why.specs.steps.Checking.{ArePast, EndsAt, IsPlaced, IsRowPlaced}
use Rattle.testing_install_why.specs.Order.{IsStep}
use Rattle.testing_install_why.specs.steps.Steps.{AreSteps}
use Rattle.testing_install_why.specs.declared.Step.{Step}

-- each of the first n steps has its row and its clause
pub record AreStepsBelow (rows : List Binary) (steps : List Step) (n : ℕ) : Type 0 where
  pub each : (m : ℕ) (step : Step) → m < n → slice_get steps m ≡ Some step → IsStep rows step

pub steps_none : (rows : List Binary) (steps : List Step) → AreStepsBelow rows steps 0
steps_none rows steps = record { each = λ m step h. absurd (omega (arith, h)) }

pub steps_more : (rows : List Binary) (steps : List Step) (n : ℕ) (step : Step) → AreStepsBelow rows steps n → slice_get steps n ≡ Some step → IsStep rows step → AreStepsBelow rows steps (n + 1)
steps_more rows steps n step below at is = record {
  each = λ m s h stands. elim (cases_lt m n) [
    | inl less ↦ below.each m s less stands
    | inr not ↦ (
        let one : m ≡ n = omega (arith, h, not) in
        subst (IsStep rows) (sym (same_Some s step (sym stands ∙ ap (slice_get steps) one ∙ at))) is)
  ];
}

pub steps_all : (rows : List Binary) (steps : List Step) (n : ℕ) → AreStepsBelow rows steps n → length steps ≤ n → AreSteps rows steps
steps_all rows steps n below h = record { each = λ m step at. below.each m step (omega (arith, h, slice_get_within steps m step at)) at }

pub row_placed : (rows : List Binary) (steps : List Step) (place : ℕ) (row : Binary) → slice_get rows place ≡ Some row → ArePast rows steps row place (length steps) → IsRowPlaced rows steps place
row_placed rows steps place row at past = record { each = λ other stands. subst (λ r. ArePast rows steps r place (length steps)) (same_Some row other (sym at ∙ stands)) past }

pub placed_none : (rows : List Binary) (steps : List Step) → IsPlaced rows steps 0
placed_none rows steps = record { each = λ k h. absurd (omega (arith, h)) }

pub placed_more : (rows : List Binary) (steps : List Step) (n : ℕ) → IsPlaced rows steps n → IsRowPlaced rows steps n → IsPlaced rows steps (n + 1)
placed_more rows steps n below is = record {
  each = λ k h. elim (cases_lt k n) [
    | inl less ↦ below.each k less
    | inr not ↦ (let one : n ≡ k = omega (arith, h, not) in subst (IsRowPlaced rows steps) one is)
  ];
}

pub placed_all : (rows : List Binary) (steps : List Step) (n m : ℕ) → IsPlaced rows steps n → m ≤ n → IsPlaced rows steps m
placed_all rows steps n m below h = record { each = λ k low. below.each k (omega (arith, h, low)) }

pub shown_everywhere : (rows : List Row) (steps : List Step) (place : ℕ) → AreSteps (binaries rows) steps → IsPlaced (binaries rows) steps (length rows) → EndsAt steps place
    → IsShownBy (binaries rows) everywhere place steps
shown_everywhere rows steps place are placed e = record {
  front = e.front;
  last = e.last;
  ends = e.ends;
  same = e.same;
  groundless = record {
    each = λ n step at.
        let is = are.each n step at in
        record {
          is = is;
          here = refl;
          unmet = λ k other stands on does.
              let low : k < length rows = omega (arith, slice_get_within (binaries rows) k other stands, length-map rows (λ (r : Row). r.binary.now)) in
              (((placed.each k low).each other stands).each n (slice_get_within steps n step at)).each step is.clause at (record { row = is.row; stands = is.stands; needs = is.needs }) does;
        };
  };
}
