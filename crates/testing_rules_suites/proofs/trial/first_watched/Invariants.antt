use Rattle.std.proofs.Common.{◌≡◌, take}
use Rattle.std.specs.Option.{option_copied}
use Rattle.testing_rules_suites.specs.steps.Trials.{names_at}
use Rattle.testing_rules_items.specs.Words.{byte_cmp, least}
use Rattle.testing_rules_suites.proofs.trial.first_watched.Given as goal

-- the first so far
abbrev pub invariant-loop-place : goal.invariant-loop-place
invariant-loop-place l = option_copied l.first ≡ least byte_cmp (names_at l.arch l.pool (take l.place-index l.places))
