use Rattle.std.proofs.Common.{◌≡◌, take}
use Rattle.std.specs.Option.{option_copied}
use Rattle.testing_rules_excuses.specs.Origins.{age_hint}
use Rattle.testing_rules_excuses.proofs.messages.age_hint.Given as goal

-- the last so far
abbrev pub invariant-loop-hint : goal.invariant-loop-hint
invariant-loop-hint l = option_copied l.last ≡ age_hint (take l.hint-index l.hints) l.upload
