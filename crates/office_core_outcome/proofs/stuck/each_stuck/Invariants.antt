use Rattle.std.proofs.Common.{take}
use Rattle.office_core_outcome.specs.steps.Settled.{AreAnswersBehind}
use Rattle.office_core_outcome.proofs.stuck.each_stuck.Given as goal

-- those so far
abbrev pub invariant-loop-source : goal.invariant-loop-source
invariant-loop-source l =
    let g = l.input in
    AreAnswersBehind g.archs.now g.facts.now g.excuses.now g.behind.now g.decisions.now (take l.source-index l.sources) l.texts.items
