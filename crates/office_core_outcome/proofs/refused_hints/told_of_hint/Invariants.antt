use Rattle.std.proofs.Common.{◌++◌, drop, filter, string_bytes, List, ℕ}
use Rattle.office_core_outcome.specs.HintTold.{is_of_hint}
use Rattle.office_core_outcome.specs.steps.RefusalSteps.{judged_in}
use Rattle.office_core_outcome.specs.WhyRefused.{AreToldOf}
use Rattle.office_core_outcome.proofs.refused_hints.told_of_hint.Given as goal

-- the text so far is told of all that are on the hint, if what is left of them comes behind it
abbrev pub invariant-decisions : goal.invariant-decisions
invariant-decisions l =
    (rest : List ℕ) → AreToldOf (judged_in l.judging) (filter (is_of_hint l.number) (drop l.decision-index l.decisions)) rest
    → AreToldOf (judged_in l.judging) (filter (is_of_hint l.number) l.decisions) (string_bytes l.text ++ rest)
