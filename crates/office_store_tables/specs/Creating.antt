-- The new tables of an office.
use Rattle.std.specs.Prelude.{◌≡◌, [], ◌∷◌, Some}
use Rattle.sqlite.specs.Order.{Row}
use Rattle.sqlite.specs.Tree.{Trees}
use Rattle.office_store_testing_tables.specs.declared.said.Said.{Said}
use Rattle.office_store_tables.specs.Tables.{office_in, said_in}

-- the tables are new: the office's only row says this, and all other tables are empty
pub record IsBlank (db : Trees) (said : Said) : Type 0 where
  pub row : Row
  pub one : db 0 ≡ row ∷ []
  pub row_says : office_in row ≡ Some (1, said)
  pub says : said_in (db 0) ≡ Some said
  pub mail : db 1 ≡ []
  pub runs : db 3 ≡ []
  pub sources : db 4 ≡ []
  pub rows : db 6 ≡ []
  pub facts : db 8 ≡ []
  pub delays : db 10 ≡ []
