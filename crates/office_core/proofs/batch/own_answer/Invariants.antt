use Rattle.std.proofs.Common.{◌≡◌, None, take}
use Rattle.office_core.specs.steps.GatherSteps.{own_text}
use Rattle.office_core.proofs.batch.own_answer.Given as goal

abbrev pub invariant-letters : goal.invariant-letters
invariant-letters l = record {
  none : own_text (take l.letter-index l.letters) l.held.sender l.held.number ≡ None;
}
