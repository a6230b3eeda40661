-- Steps beside `specs/Said.antt`.
use Rattle.std.specs.Prelude.{List, filter, option_copied}
use Rattle.testing_rules_items.specs.Words.{Text}
use Rattle.testing_rules_model.specs.declared.facts.UploadIn.{UploadIn}
use Rattle.testing_rules_model.specs.Boxed.{unboxed}
use Rattle.testing_rules_model.specs.Excuses.{testing_version}
use Rattle.testing_rules_model.specs.FactLists.{FactLists}
use Rattle.testing_rules_model.specs.JudgedRows.{lent}
use Rattle.testing_rules_model.specs.Suite.{Suite}
use Rattle.testing_rules_model.specs.Unstable.{built_rows, is_in_force, is_of_source}
use Rattle.testing_rules_excuses.specs.declared.source_facts.SourceFacts.{SourceFacts}
use Rattle.testing_rules_excuses.specs.Said.{SaidLists}

-- what is said of a source in the code's type
abbrev pub said_lists : SourceFacts → SaidLists
said_lists s = record { rows = lent s.rows.items; bugs = unboxed s.bugs.now; hints = s.hints.items; testing = option_copied s.testing }

-- what facts and testing say about a source: unstable's rows that name it, the states of all bugs, the hints named by
-- no unhint, and its version in testing
abbrev pub said_of : List Text → FactLists → Suite → UploadIn → SaidLists
said_of archs f t u = record {
  rows = filter (is_of_source u) (built_rows archs f.rows);
  bugs = f.bugs;
  hints = filter (is_in_force f.unhints) f.hints;
  testing = testing_version t u.source;
}
