use Rattle.std.proofs.Common.{◌≡◌, take}
use Rattle.testing_rules_model.specs.Excuses.{hinted_days}
use Rattle.testing_rules_excuses.proofs.days.hinted_days.Given as goal

-- the last so far
abbrev pub invariant-loop-hint : goal.invariant-loop-hint
invariant-loop-hint l = l.days ≡ hinted_days (take l.hint-index l.hints) l.upload
