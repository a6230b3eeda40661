-- When facts stand for a set of covered messages, with a testing. This office decides to keep facts; their rules are
-- those of Unstable and Excuses (Debian Developer's Reference 5.13.2).
use Rattle.std.specs.Prelude.{◌≡◌, true, [], Contains}
use Rattle.testing_rules_model.specs.Suite.{Suite}
use Rattle.testing_rules_model.specs.FactLists.{FactLists}
use Rattle.testing_rules_model.specs.declared.facts.UploadIn.{UploadIn}
use Rattle.testing_rules_model.specs.Covered.{Covered, uploads_in}
use Rattle.testing_rules_model.specs.Unstable.{unstable_sources, unstable_builds, greatest_drops, bug_states, hints_by_number, unhints_by_number, last_delays}
use Rattle.testing_rules_model.specs.Excuses.{is_news, testing_version}

-- the facts have what the rules need from the set. Their uploads are some of the set, among them all that count with
-- the testing
pub record StandsFor (facts : FactLists) (s : Covered) (t : Suite) : Type 0 where
  pub sources : facts.sources ≡ unstable_sources s
  pub rows : facts.rows ≡ unstable_builds s
  pub drops : facts.drops ≡ greatest_drops s
  pub bugs : facts.bugs ≡ bug_states s
  pub hints : facts.hints ≡ hints_by_number s
  pub unhints : facts.unhints ≡ unhints_by_number s
  pub delays : facts.delays ≡ last_delays s
  pub are_uploads : (u : UploadIn) → Contains facts.uploads u → Contains (uploads_in s) u
  pub counted : (u : UploadIn) → Contains (uploads_in s) u → is_news (testing_version t u.source) u.version ≡ true
      → Contains facts.uploads u

-- the facts stand for no messages, with any testing
abbrev pub StandsForNone : FactLists → Type 0
StandsForNone facts = (t : Suite) → StandsFor facts [] t
