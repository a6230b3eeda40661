use Rattle.std.proofs.Common.{◌≡◌, map, take}
use Rattle.testing_rules_model.specs.Unstable.{place_numbers}
use Rattle.testing_rules_excuses.specs.steps.BySource.{excuses_by, ground_at, told_of}
use Rattle.testing_rules_excuses.proofs.run_excuses.excuses_on.Given as goal

-- those so far
abbrev pub invariant-loop-source : goal.invariant-loop-source
invariant-loop-source l = l.excuses.items ≡ excuses_by (place_numbers l.archs) (ground_at l.grouped) (map told_of (take l.source-index l.news))
