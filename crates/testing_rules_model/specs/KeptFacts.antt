-- The uploads that count with a testing, and the facts that keep no others. This office decides to keep facts; Excuses
-- says which uploads count (Debian Developer's Reference 5.13.2).
use Rattle.std.specs.Prelude.{◌≡◌, ◌++◌, Bool, true, not, map, filter, Contains}
use Rattle.testing_rules_model.specs.declared.facts.UploadIn.{UploadIn}
use Rattle.testing_rules_model.specs.Suite.{Suite}
use Rattle.testing_rules_model.specs.FactLists.{FactLists}
use Rattle.testing_rules_model.specs.FactRows.{upload_row}
use Rattle.testing_rules_model.specs.Covered.{Covered}
use Rattle.testing_rules_model.specs.Excuses.{is_news, testing_version}
use Rattle.testing_rules_model.specs.StandsFor.{StandsFor}

-- the upload is above testing's version of its source, or testing has none
abbrev pub counts_beside : Suite → UploadIn → Bool
counts_beside t u = is_news (testing_version t u.source) u.version

-- the facts with only the uploads that count; the rows of the other uploads left
abbrev pub trimmed : Suite → FactLists → FactLists
trimmed t f = record f {
  uploads = filter (counts_beside t) f.uploads;
  left = f.left ++ map upload_row (filter (λ u. not (counts_beside t u)) f.uploads);
}

-- kept facts: they stand for the set, and each of their uploads counts
pub record KeptFacts (f : FactLists) (s : Covered) (t : Suite) : Type 0 where
  pub stand : StandsFor f s t
  pub only : (u : UploadIn) → Contains f.uploads u → counts_beside t u ≡ true
