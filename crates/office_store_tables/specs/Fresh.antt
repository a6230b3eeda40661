-- Empty tables.
use Rattle.std.specs.Prelude.{◌≡◌}
use Rattle.sqlite.specs.Tree.{Trees}
use Rattle.office_mail.specs.Lists.{Lists}
use Rattle.office_store_keeper.specs.Content.{no_content}
use Rattle.office_store_tables.specs.TableContent.{content_in}
use Rattle.office_store_tables.specs.Legible.{IsLegible}

-- the tables are what an office writes, and they are empty
pub record IsEmptyFor (setup : Lists) (db : Trees) : Type 0 where
  pub legible : IsLegible setup db
  pub content : content_in setup db ≡ no_content
