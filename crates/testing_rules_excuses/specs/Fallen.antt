-- The sources that testing lost, or has in a lower version than before.
use Rattle.std.specs.Prelude.{List, map, filter}
use Rattle.testing_rules_model.specs.Suite.{Suite}
use Rattle.testing_rules_items.specs.Words.{Text}
use Rattle.testing_rules_model.specs.Excuses.{is_news, testing_version}

-- the old version is above the new one, or there is no new one
abbrev pub fallen_names : Suite → Suite → List Text
fallen_names old new = map (λ s. s.name) (filter (λ s. is_news (testing_version new s.name) s.version) old.sources)
