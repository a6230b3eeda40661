-- The tables of an office, and their content.
use Rattle.std.specs.Ordering.{nat_cmp}
use Rattle.std.specs.declared.cmp.Ordering.{Ordering}
use Rattle.std.specs.Prelude.{◌≡◌, ◌≤◌, ◌⊎◌, length, filter_map, ℕ, pos, List, Option, Some, None, option_and_then, IsTrue, false, nat_lt, if◌then◌else◌}
use Rattle.std.specs.FinMap.{FinMap, find, len, from_entries}
use Rattle.office_store_keeper.specs.declared.values.Reports.{Reports}
use Rattle.office_store_testing_tables.specs.declared.said.Said.{Said}
use Rattle.sqlite.specs.Order.{Row, column}
use Rattle.sqlite.specs.State.{State, HasCleanDisk}
use Rattle.sqlite_trees.specs.View.{doubt}
use Rattle.office_mail.specs.Counts.{HasRisen}
use Rattle.sqlite.specs.declared.types.Value.{Value}
use Rattle.sqlite.specs.declared.types.Value.TheVariants.{Int, Text, Blob}
use Rattle.office_mail.specs.Kept.{Kept, Place}
use Rattle.office_store_testing_tables.specs.Layout.{office_schema}

-- No other program writes the tables, the disk returns what was written, no disk fault has closed the connection, and
-- the steps of a statement have no limit. Opening sets a limit (none reaches it) if there are tables besides the
-- office's: then nothing is promised about the content.
abbrev pub IsTrusted : State → Type 0
IsTrusted s = HasCleanDisk s × IsTrue s.is_open × (s.step_limit ≡ None)

-- no disk fault is forgotten, and only a disk fault closes the connection
pub record Endures (old new : State) : Type 0 where
  pub clean : doubt old.is_clean ≤ doubt new.is_clean
  pub counts : old.faults ≤ new.faults
  pub closes : HasCleanDisk new → IsTrue old.is_open → IsTrue new.is_open ⊎ HasRisen old.faults new.faults

-- between calls: exactly the seven tables, no transaction, and nothing uncommitted
pub record IsOurs (s : State) : Type 0 where
  pub schema : s.now.schema ≡ office_schema
  pub settled : s.now ≡ s.committed
  pub autocommit : s.in_transaction ≡ false

-- each row of a table has its own entry: it is readable, and no two rows have the same key
abbrev pub IsWhole : {K V : Type 0} {R : K → K → Ordering} → FinMap R V → List Row → Type 0
IsWhole map rows = len map ≡ length rows

-- ---- the content of values

-- a number from 0
abbrev pub number_in : Value → Option ℕ
number_in (Int (pos n)) = Some n
number_in _ = None

-- a number of 32 bits
abbrev pub small_in : Value → Option ℕ
small_in v = option_and_then (λ n. if nat_lt n 4_294_967_296 then Some n else None) (number_in v)

-- bytes
abbrev pub bytes_in : Value → Option (List ℕ)
bytes_in (Blob bytes) = Some bytes
bytes_in _ = None

-- ---- mail

-- the content of a row of mail from its columns, if all are readable
abbrev pub letter_by : Option ℕ → Option ℕ → Option (List ℕ) → Option (Place × List ℕ)
letter_by (Some sender) (Some number) (Some text) = Some ((sender, number), text)
letter_by _ _ _ = None

-- the content of a row of mail: its sender's place, its number, and its text
unfoldable pub letter_in : Row → Option (Place × List ℕ)
letter_in row = letter_by (number_in (column row 1)) (number_in (column row 2)) (bytes_in (column row 3))

-- the mail kept in the rows
abbrev pub kept_rows : List Row → Kept
kept_rows rows = from_entries (filter_map letter_in rows)

-- ---- the office's row

-- characters
abbrev pub text_in : Value → Option (List ℕ)
text_in (Text text) = Some text
text_in _ = None

-- the content of a row of the office from its columns, if all are readable
abbrev pub office_by : Option ℕ → Option ℕ → Option (List ℕ) → Option ℕ → Option (ℕ × Said)
office_by (Some id) (Some schema) (Some setup) (Some finished) = Some (id, record { schema = schema; setup = setup; finished = finished })
office_by _ _ _ _ = None

-- the content of a row of the office, with its id
unfoldable pub office_in : Row → Option (ℕ × Said)
office_in row = office_by (number_in (column row 0)) (number_in (column row 2)) (text_in (column row 3)) (number_in (column row 4))

-- what the office says of itself: the content of its row with the id 1
abbrev pub said_in : List Row → Option Said
said_in rows = find nat_cmp 1 (filter_map office_in rows)

-- ---- the reports of runs

-- the content of a row of a finished run from its columns, if all are readable
abbrev pub run_by : Option ℕ → Option (List ℕ) → Option (List ℕ) → Option (ℕ × Reports)
run_by (Some number) (Some excuses) (Some updates) = Some (number, record { excuses = excuses; updates = updates })
run_by _ _ _ = None

-- the content of a row of a finished run: its number, and its two reports
unfoldable pub run_in : Row → Option (ℕ × Reports)
run_in row = run_by (number_in (column row 0)) (text_in (column row 2)) (text_in (column row 3))

-- the reports kept in the rows, by the runs' numbers
abbrev pub run_map : List Row → FinMap nat_cmp Reports
run_map rows = from_entries (filter_map run_in rows)
