use Rattle.std.proofs.Common.{◌≡◌, take, None}
use Rattle.testing_rules_excuses.specs.States.{excuse_of}
use Rattle.testing_rules_excuses.proofs.states.excuse_of.Given as goal

-- none so far
abbrev pub invariant-loop-excuse : goal.invariant-loop-excuse
invariant-loop-excuse l = excuse_of (take l.excuse-index l.excuses) l.name ≡ None
