-- Steps beside `specs/TableContent.antt`.
use Rattle.std.specs.Prelude.{◌≡◌, List, [], length, Option, option_and_then, fold, Contains, IsSome}
use Rattle.sqlite.specs.Order.{Row}
use Rattle.testing_rules_model.specs.Suite.{Suite}
use Rattle.testing_rules_model.specs.Moves.{put_source, put_row}
use Rattle.testing_rules_model.specs.declared.suite.SourceIn.{SourceIn}
use Rattle.testing_rules_model.specs.declared.suite.RowIn.{RowIn}
use Rattle.office_mail.specs.Lists.{Lists}
use Rattle.office_mail.specs.Kept.{Kept}
use Rattle.office_mail.specs.Read.{read}
use Rattle.office_store_testing_tables.specs.Entries.{source_in, entry_in}
use Rattle.office_store_testing_tables.specs.TableContent.{source_at, row_at}

-- the source of testing named by a row
unfoldable pub source_of : Lists → Kept → Row → Option SourceIn
source_of setup kept row = option_and_then (source_at setup kept) (source_in row)

-- the row of testing named by a row of its table
unfoldable pub row_of : Lists → Kept → Row → Option RowIn
row_of setup kept row = option_and_then (row_at setup kept) (entry_in row)

-- each of these rows is shown and readable
abbrev pub ReadsEach : {X : Type 0} → (Row → Row) → (Row → Option X) → List Row → Type 0
ReadsEach columns read rows = (row : Row) → Contains rows row → (row ≡ columns row) × IsSome (read row)

-- sources put into those already there, one by one; below, rows
abbrev pub put_all_sources : List SourceIn → List SourceIn → List SourceIn
put_all_sources new sources = fold (λ xs x. put_source x xs) sources new

abbrev pub put_all_rows : List RowIn → List RowIn → List RowIn
put_all_rows new rows = fold (λ xs x. put_row x xs) rows new

-- these sources and rows, put in order, one per key
pub record IsGathered (new_sources : List SourceIn) (new_rows : List RowIn) (testing : Suite) : Type 0 where
  pub sources : testing.sources ≡ put_all_sources new_sources []
  pub rows : testing.rows ≡ put_all_rows new_rows []
  pub all_sources : length testing.sources ≡ length new_sources
  pub all_rows : length testing.rows ≡ length new_rows
