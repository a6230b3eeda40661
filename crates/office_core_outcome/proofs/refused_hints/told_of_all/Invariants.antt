use Rattle.std.proofs.Common.{◌++◌, drop, string_bytes, List, ℕ}
use Rattle.office_core_outcome.specs.steps.RefusalSteps.{judged_in}
use Rattle.office_core_outcome.specs.WhyRefused.{AreToldOf}
use Rattle.office_core_outcome.proofs.refused_hints.told_of_all.Given as goal

-- the text so far is told of all, if what is left comes behind it
abbrev pub invariant-decisions : goal.invariant-decisions
invariant-decisions l = (rest : List ℕ) → AreToldOf (judged_in l.judging) (drop l.decision-index l.decisions) rest → AreToldOf (judged_in l.judging) l.decisions (string_bytes l.text ++ rest)
