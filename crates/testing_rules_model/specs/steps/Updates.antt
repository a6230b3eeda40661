-- Steps beside `specs/Updates.antt`.
use Rattle.std.specs.Prelude.{Bool, List, length}
use Rattle.std.specs.Option.{option_to_list, is_none}
use Rattle.testing_rules_model.specs.declared.facts.UploadIn.{UploadIn}
use Rattle.testing_rules_model.specs.declared.suite.RowIn.{RowIn}
use Rattle.testing_rules_model.specs.declared.excuse.Excuse.{Excuse}
use Rattle.testing_rules_model.specs.declared.update.Offender.{Offender}
use Rattle.testing_rules_model.specs.declared.update.Decision.{Decision}
use Rattle.testing_rules_model.specs.declared.update.Decision.TheVariants.{Accept, Wait}
use Rattle.testing_rules_model.specs.Suite.{Suite}
use Rattle.testing_rules_items.specs.Words.{Text}
use Rattle.testing_rules_model.specs.Updates.{Outcome, offender_alone, single_moves, wait_for, waits}

-- moving the candidate alone breaks nothing
abbrev pub is_allowed_alone : List Text → List UploadIn → List RowIn → Suite → Excuse → Bool
is_allowed_alone archs sources rows t e = is_none (offender_alone archs sources rows t e)

-- the line of a candidate that moves (this office decides it)
abbrev pub accepted : Excuse → Decision
accepted e = Accept e.source e.unstable

-- the line of a candidate that waits, with the first row that its move would break (this office decides it)
abbrev pub waiting : Excuse → Offender → Decision
waiting e o = Wait e.source e.unstable o

-- the single moves of these candidates, beginning with the first
abbrev pub move_circle : List Text → List UploadIn → List RowIn → List Excuse → Suite → Outcome
move_circle archs sources rows es t = single_moves archs sources rows (length es) es t

-- that line, with testing unchanged
abbrev pub wait : List Text → List UploadIn → List RowIn → Excuse → Suite → Outcome
wait archs sources rows e t = record { decisions = option_to_list (wait_for archs sources rows t e); suite = t }

-- all these lines, with testing unchanged
abbrev pub wait_all : List Text → List UploadIn → List RowIn → List Excuse → Suite → Outcome
wait_all archs sources rows excuses t = record { decisions = waits archs sources rows excuses t; suite = t }
