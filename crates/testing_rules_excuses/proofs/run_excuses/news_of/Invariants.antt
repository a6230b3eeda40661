use Rattle.std.proofs.Common.{◌≡◌, map, take}
use Rattle.testing_rules_model.specs.Boxed.{unboxed}
use Rattle.testing_rules_excuses.specs.steps.BySource.{news_of, told_of}
use Rattle.testing_rules_excuses.proofs.run_excuses.news_of.Given as goal

-- those so far
abbrev pub invariant-sources : goal.invariant-sources
invariant-sources l = map told_of l.news.items ≡ news_of l.testing (unboxed (take l.upload-index l.sources))
