use Rattle.std.proofs.Common.{◌≡◌, take, false}
use Rattle.testing_rules_model.specs.Updates.{is_candidate}
use Rattle.testing_rules_moves.proofs.groups.is_among.Given as goal

-- none so far
abbrev pub invariant-loop-excuse : goal.invariant-loop-excuse
invariant-loop-excuse l = is_candidate (take l.excuse-index l.excuses) l.name l.version ≡ false
