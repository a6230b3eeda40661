-- What the statements on mail, on the office and on runs show of the tables, and how they change them.
use Rattle.std.specs.Ordering.{is_eq, is_ge, is_le, is_lt}
use Rattle.std.specs.Prelude.{◌≡◌, ◌≤◌, ◌<◌, ◌+◌, ◌⊎◌, ◌&&◌, Bool, Contains, length, filter, filter_map, ℕ, pos, List, [], ◌∷◌, Option, Some, None, IsTrue, IsSome, true, false, nat_le}
use Rattle.std.specs.FinMap.{get, insert}
use Rattle.office_store_keeper.specs.declared.values.Letter.{Letter}
use Rattle.office_store_keeper.specs.declared.values.NewLetter.{NewLetter}
use Rattle.office_store_keeper.specs.declared.values.Reports.{Reports}
use Rattle.office_store_testing_tables.specs.declared.said.Said.{Said}
use Rattle.sqlite_rules.specs.Lists.{Has}
use Rattle.sqlite_rules.specs.Edit.{is_taken}
use Rattle.sqlite.specs.Order.{Row, column, value_cmp}
use Rattle.sqlite.specs.Tree.{Trees, put_row}
use Rattle.sqlite.specs.State.{State}
use Rattle.sqlite.specs.declared.types.Value.TheVariants.{Int, Text, Blob}
use Rattle.office_mail.specs.Kept.{Kept, Place}
use Rattle.office_store_testing_tables.specs.Layout.{office_schema}
use Rattle.office_store_testing_tables.specs.Tables.{IsOurs, IsWhole, number_in, bytes_in, letter_by, letter_in, office_in, said_in, run_in, run_map}

-- a call left the tables unchanged
pub record Same (old new : State) : Type 0 where
  pub ours : IsOurs new
  pub now : new.now ≡ old.now

-- the seven tables, in an open transaction
pub record IsInside (s : State) : Type 0 where
  pub schema : s.now.schema ≡ office_schema
  pub begun : IsTrue s.in_transaction

-- a step within a transaction succeeded: the transaction is still open, and nothing was committed
pub record WentOn (old new : State) : Type 0 where
  pub inside : IsInside new
  pub committed : new.committed ≡ old.committed

-- the rows of each table, without their indexes
pub record Rows : Type 0 where
  pub office : List Row
  pub mail : List Row
  pub runs : List Row
  pub sources : List Row
  pub rows : List Row
  pub facts : List Row
  pub delays : List Row

-- the places of the tables' rows
abbrev pub rows_in : Trees → Rows
rows_in db = record { office = db 0; mail = db 1; runs = db 3; sources = db 4; rows = db 6; facts = db 8; delays = db 10 }

-- the shown part of a row if only its rowid is asked for, like a run's number
abbrev pub rowid_column : Row → Row
rowid_column row = column row 0 ∷ []

-- ---- mail

-- the row compares equal, as SQL's = does, to this place and number
abbrev pub is_at : ℕ → ℕ → Row → Bool
is_at sender number row = is_eq (value_cmp (column row 1) (Int (pos sender))) && is_eq (value_cmp (column row 2) (Int (pos number)))

-- the shown part of a row of mail: its sender's place, its number and its text
abbrev pub letter_columns : Row → Row
letter_columns row = column row 1 ∷ column row 2 ∷ column row 3 ∷ []

-- the row compares in SQL as one with this place and a number from one to another (this office decides the query)
abbrev pub is_between : ℕ → ℕ → ℕ → Row → Bool
is_between sender from to row = is_eq (value_cmp (column row 1) (Int (pos sender))) && (is_ge (value_cmp (column row 2) (Int (pos from))) && is_le (value_cmp (column row 2) (Int (pos to))))

-- the content of a shown row of mail
unfoldable pub shown_letter : Row → Option (Place × List ℕ)
shown_letter row = letter_by (number_in (column row 0)) (number_in (column row 1)) (bytes_in (column row 2))

-- each shown row has this sender's place, a number and a text
abbrev pub ShowsLetters : ℕ → List Row → Type 0
ShowsLetters sender rows = (row : Row) → Contains rows row → (number : ℕ) × (text : List ℕ) × (number < 4_294_967_296) × (row ≡ Int (pos sender) ∷ Int (pos number) ∷ Blob text ∷ [])

-- a letter of this sender in the form of the table of mail
abbrev pub letter_entry : ℕ → Letter → Place × List ℕ
letter_entry sender letter = ((sender, letter.number), letter.text)

-- whether the first letter's number is at least this one, and each later number is above the one before
abbrev pub rises_from : ℕ → List Letter → Bool
rises_from least [] = true
rises_from least (letter ∷ letters) = nat_le least letter.number && rises_from (letter.number + 1) letters

-- the result of a look-up from its shown rows: the text of the only one, or none
abbrev pub IsOnly : ℕ → ℕ → Option (List ℕ) → List Row → Type 0
IsOnly sender number None rows = rows ≡ []
IsOnly sender number (Some text) rows =
    (row : Row) × (rows ≡ row ∷ []) × (column row 0 ≡ Int (pos sender)) × (column row 1 ≡ Int (pos number)) × (column row 2 ≡ Blob text)

-- the row compares in SQL as one with this place and a number from one on
abbrev pub is_from : ℕ → ℕ → Row → Bool
is_from sender from row = is_eq (value_cmp (column row 1) (Int (pos sender))) && is_ge (value_cmp (column row 2) (Int (pos from)))

-- a row of the sender with a number from one on, the least of these numbers
pub record IsLeast (sender from : ℕ) (table : List Row) (row : Row) : Type 0 where
  pub stands : Has table row
  pub passes : is_from sender from row ≡ true
  pub least : (other : Row) → Has table other → is_from sender from other ≡ true → is_lt (value_cmp (column other 2) (column row 2)) ≡ false

-- what is shown for the least number from one on: nothing if there is none, else its row alone
abbrev pub ShowsLeast : ℕ → ℕ → List Row → List Row → Type 0
ShowsLeast sender from table rows =
    ((rows ≡ []) × ((row : Row) → Has table row → is_from sender from row ≡ false)) ⊎ ((row : Row) × IsLeast sender from table row × (rows ≡ letter_columns row ∷ []))

-- the result of a look-up from its shown rows: the number of the only one, or none
abbrev pub IsOnlyNumber : ℕ → Option ℕ → List Row → Type 0
IsOnlyNumber sender None rows = rows ≡ []
IsOnlyNumber sender (Some number) rows = (text : List ℕ) × IsOnly sender number (Some text) rows

-- each kept number fits in 32 bits
abbrev pub AreSmall : Kept → Type 0
AreSmall kept = (p : Place) → IsSome (get kept p) → p.1 < 4_294_967_296

-- every row of mail has a sender's place, a number and a text
abbrev pub AreLetters : List Row → Type 0
AreLetters rows = (row : Row) → Has rows row → (entry : Place × List ℕ) × (letter_in row ≡ Some entry)

-- no two rows of mail have the same sender and number
abbrev pub AreApart : List Row → Type 0
AreApart rows = (sender number : ℕ) → length (filter (is_at sender number) rows) ≤ 1

-- the mail isn't in the form that an office keeps
abbrev pub IsCrowded : List Row → Type 0
IsCrowded rows = AreLetters rows → AreApart rows → ⊥

-- one row was added to the mail, with a new rowid, and the other tables are unchanged
pub record AddsLetter (db next : Trees) (sender number : ℕ) (text : List ℕ) : Type 0 where
  pub row : Row
  pub says : letter_in row ≡ Some ((sender, number), text)
  pub free : is_taken (db 1) row ≡ false
  pub put : rows_in next ≡ record (rows_in db) { mail = put_row row (db 1) }

-- a statement's values for a letter
abbrev pub letter_parameters : NewLetter → Row
letter_parameters letter = Int (pos letter.sender) ∷ Int (pos letter.number) ∷ Blob letter.text ∷ []

-- rows of these letters were added to the mail one by one, and the other tables are unchanged
abbrev pub AddsLetters : Trees → Trees → List NewLetter → Type 0
AddsLetters db next [] = next ≡ db
AddsLetters db next (l ∷ ls) = (mid : Trees) × AddsLetter db mid l.sender l.number l.text × AddsLetters mid next ls

-- ---- the office's row

-- the only row says what the office says of itself
abbrev pub SaysAlone : List Row → Type 0
SaysAlone rows = (length rows ≡ 1) × IsSome (said_in rows)

-- the shown part of a row of the office: all but its copy of the rowid
abbrev pub office_columns : Row → Row
office_columns row = column row 0 ∷ column row 2 ∷ column row 3 ∷ column row 4 ∷ []

-- the result from the shown rows: the content of the only one
abbrev pub IsOnlyOffice : Said → List Row → Type 0
IsOnlyOffice said rows =
    (row : Row) × (rows ≡ row ∷ []) × (column row 0 ≡ Int (pos 1)) × (column row 1 ≡ Int (pos said.schema)) × (column row 2 ≡ Text said.setup) × (column row 3 ≡ Int (pos said.finished))

-- ---- the reports of runs

-- the row compares equal, as SQL's = does, to this run's number
abbrev pub is_run : ℕ → Row → Bool
is_run run row = is_eq (value_cmp (column row 0) (Int (pos run)))

-- the shown part of a finished run: its number, and its two reports
abbrev pub run_columns : Row → Row
run_columns row = column row 0 ∷ column row 2 ∷ column row 3 ∷ []

-- the result of a look-up from its shown rows: the reports of the only one, or none
abbrev pub IsOnlyRun : ℕ → Option Reports → List Row → Type 0
IsOnlyRun run None rows = rows ≡ []
IsOnlyRun run (Some reports) rows =
    (row : Row) × (rows ≡ row ∷ []) × (column row 0 ≡ Int (pos run)) × (column row 1 ≡ Text reports.excuses) × (column row 2 ≡ Text reports.updates)

-- ---- how the steps of a finished run change the tables

-- one run's row was added, with its number as its rowid, and the other tables are unchanged
pub record AddsRun (db next : Trees) (number : ℕ) (reports : Reports) : Type 0 where
  pub row : Row
  pub says : run_in row ≡ Some (number, reports)
  pub free : is_taken (db 3) row ≡ false
  pub put : rows_in next ≡ record (rows_in db) { runs = put_row row (db 3) }

-- the office's rows are removed, nothing is left of a row that was alone, and the other tables are unchanged
pub record Silences (db next : Trees) : Type 0 where
  pub none : filter_map office_in (next 0) ≡ []
  pub left : SaysAlone (db 0) → next 0 ≡ []
  pub rest : rows_in next ≡ record (rows_in db) { office = next 0 }

-- a row of the office was added, with a new rowid, and the other tables are unchanged
pub record SaysMore (db next : Trees) (said : Said) : Type 0 where
  pub row : Row
  pub says : office_in row ≡ Some (1, said)
  pub free : is_taken (db 0) row ≡ false
  pub put : rows_in next ≡ record (rows_in db) { office = put_row row (db 0) }

-- a run is in the tables: its reports are added to the earlier ones, the office says this, and mail, testing and facts
-- are unchanged; the table of runs stays whole, and that of the office has one row
pub record RecordsRun (db next : Trees) (number : ℕ) (reports : Reports) (said : Said) : Type 0 where
  pub reported : run_map (next 3) ≡ insert (run_map (db 3)) number reports
  pub new : get (run_map (db 3)) number ≡ None
  pub whole : IsWhole (run_map (db 3)) (db 3) → IsWhole (run_map (next 3)) (next 3)
  pub says : said_in (next 0) ≡ Some said
  pub once : SaysAlone (db 0) → length (next 0) ≡ 1
  pub mail : next 1 ≡ db 1
  pub sources : next 4 ≡ db 4
  pub rows : next 6 ≡ db 6
  pub facts : next 8 ≡ db 8
  pub delays : next 10 ≡ db 10
