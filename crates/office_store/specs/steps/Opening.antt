-- Steps beside `specs/Opening.antt`.
use Rattle.std.specs.Prelude.{ℕ, Option}
use Rattle.sqlite.specs.Order.{Row, column}
use Rattle.office_store_tables.specs.declared.said.Said.{Said}
use Rattle.office_store_tables.specs.Tables.{number_in, text_in, office_by}

-- the content of a row whose id is shown with its copy of the rowid as one
abbrev pub shown_office : Row → Option (ℕ × Said)
shown_office row = office_by (number_in (column row 0)) (number_in (column row 1)) (text_in (column row 2)) (number_in (column row 3))
