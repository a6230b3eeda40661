-- The effect of one more byte on a header line.
use Rattle.std.specs.Prelude.{◌≡◌, ℕ, ◌≤◌, [], ◌∷◌, ◌++◌, ◌+◌}
use Rattle.office_mail.specs.declared.bag.LineStep.{LineStep}
use Rattle.office_mail.specs.declared.bag.LineStep.TheVariants.{More, Whole, Bad}
use Rattle.office_mail.specs.Bag.{header, BeginsHeader}
use Rattle.office_mail.specs.steps.Line.{spelled}

-- the byte continues the line, completes it, or no line continues with it
abbrev pub StepsTo : ℕ → ℕ → ℕ → LineStep → Type 0
StepsTo place value byte (More line) = (spelled line.place line.value ≡ spelled place value ++ byte ∷ []) × (line.place ≡ place + 1)
StepsTo place value byte (Whole n) = (header n ≡ spelled place value ++ byte ∷ []) × (n ≤ 999_999_999)
StepsTo place value byte Bad = BeginsHeader (spelled place value ++ byte ∷ []) → ⊥
