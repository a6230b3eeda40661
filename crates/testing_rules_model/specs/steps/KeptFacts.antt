-- Steps beside `specs/KeptFacts.antt`.
use Rattle.std.specs.Prelude.{◌≡◌, ◌⊎◌, true, List, Contains}
use Rattle.testing_rules_items.specs.Words.{Text}
use Rattle.testing_rules_model.specs.Suite.{Suite}
use Rattle.testing_rules_model.specs.Excuses.{is_news, testing_version}

-- what counts with the new testing counted with the old one, except for the sources with these names, which were
-- removed or fell
abbrev pub AreFallen : List Text → Suite → Suite → Type 0
AreFallen names old new = (name v : Text) → is_news (testing_version new name) v ≡ true → (is_news (testing_version old name) v ≡ true) ⊎ Contains names name
