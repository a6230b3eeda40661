-- Facts that messages say, row by row. That facts are kept as rows is this office's own.
use Rattle.std.specs.Prelude.{◌≡◌, ◌≤◌, List, Contains, IsSome}
use Rattle.testing_rules_facts.specs.Restored.{Given, message_of, restored}
use Rattle.testing_rules_facts.specs.Uploads.{AreByMessage}
use Rattle.testing_rules_laws.specs.steps.Restored.{restored_all}
use Rattle.testing_rules_model.specs.declared.fact_row.FactKind.TheVariants.{Delays}
use Rattle.testing_rules_model.specs.declared.fact_row.FactRow.{FactRow}
use Rattle.testing_rules_model.specs.Covered.{Covered, CoveredItem, delays_of}
use Rattle.testing_rules_model.specs.FactLists.{FactLists}
use Rattle.testing_rules_model.specs.FactRows.{rows_of, times, IsFactRow}
use Rattle.testing_rules_model.specs.KeptFacts.{trimmed}
use Rattle.testing_rules_model.specs.SameMessages.{SameElements, HasOneOfEach}
use Rattle.testing_rules_model.specs.StandsFor.{StandsFor}
use Rattle.testing_rules_model.specs.Suite.{Suite}
use Rattle.testing_rules_model.specs.Tells.{Tells}

-- Messages that say facts also say them with one more row, if they include its message.
abbrev pub RestoredTell : Type 0
RestoredTell = (x : Given) (f : FactLists) (s : Covered) → Tells f s → Contains s (message_of x) → Tells (restored x f) s

-- The same with more rows, if the messages include those of the rows.
abbrev pub AllRestoredTell : Type 0
AllRestoredTell = (xs : List Given) (f : FactLists) (s : Covered) → Tells f s → ((x : Given) → Contains xs x → Contains s (message_of x)) → Tells (restored_all xs f) s

-- They also say them with other rows that came and left.
abbrev pub LoggedTell : Type 0
LoggedTell = (came left : List FactRow) (f : FactLists) (s : Covered) → Tells f s → Tells (record f { came = came; left = left }) s

-- They also say them trimmed.
abbrev pub TrimmedTell : Type 0
TrimmedTell = (t : Suite) (f : FactLists) (s : Covered) → Tells f s → Tells (trimmed t f) s

-- More messages also say them.
abbrev pub MoreTell : Type 0
MoreTell = (f : FactLists) (s more : Covered) → ((m : CoveredItem) → Contains s m → Contains more m) → Tells f s → Tells f more

-- Messages say the facts that stand for them.
abbrev pub StandTell : Type 0
StandTell = (f : FactLists) (s : Covered) (t : Suite) → StandsFor f s t → Tells f s

-- If facts stand for messages, other facts with the same rows that these messages say stand for them too.
abbrev pub SaidRowsTell : Type 0
SaidRowsTell = (f g : FactLists) (s : Covered) (t : Suite) → HasOneOfEach s → StandsFor f s t → Tells g s → SameElements (rows_of f) (rows_of g) → StandsFor g s t

-- No row occurs twice in facts that messages say.
abbrev pub RowsOnce : Type 0
RowsOnce = (f : FactLists) (s : Covered) → HasOneOfEach s → Tells f s → AreByMessage f.uploads → (r : FactRow) → times r (rows_of f) ≤ 1

-- the message that a row names is among these; for the row of the last delays, it sets delays
pub record NamesMessage (s : Covered) (r : FactRow) : Type 0 where
  pub message : CoveredItem
  pub among : Contains s message
  pub sender : message.sender ≡ r.sender
  pub number : message.number ≡ r.number
  pub delays : r.kind ≡ Delays → IsSome (delays_of message)

-- rows that facts can have, each with a message, and at most one of delays
pub record AreFactRows (s : Covered) (rows : List FactRow) : Type 0 where
  pub each : (r : FactRow) → Contains rows r → IsFactRow r
  pub named : (r : FactRow) → Contains rows r → NamesMessage s r
  pub one : (q r : FactRow) → Contains rows q → Contains rows r → q.kind ≡ Delays → r.kind ≡ Delays → q ≡ r

-- The rows of facts that messages say are such rows.
abbrev pub ToldRowsAreFactRows : Type 0
ToldRowsAreFactRows = (f : FactLists) (s : Covered) → Tells f s → AreFactRows s (rows_of f)
