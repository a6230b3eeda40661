-- A store in a file.
use Rattle.std.specs.Prelude.{ℕ}
use Rattle.sqlite.specs.Files.{file_state}
use Rattle.sqlite.specs.Files as files
use Rattle.sqlite.specs.Held.{Held}
use Rattle.sqlite.specs.Recovery.{Image}
use Rattle.sqlite.specs.Start.{FindsIn}
use Rattle.sqlite.specs.declared.FileStore.{FileStore}
use Rattle.sqlite_disk.specs.declared.Disk.{Ghosts}
use Rattle.office_mail.specs.Lists.{Lists}
use Rattle.office_store.specs.Opening.{IsOpened, IsAlone, IsTakeable}
use Rattle.office_store.specs.Tables.{IsTrusted}
use Rattle.office_store.specs.declared.store.FileFault.{FileFault}

-- the exit status for any fault of a store
abbrev pub status_of_store : FileFault → ℕ
status_of_store fault = 4

-- the database in the files was opened, and has the tables of an office with this setup: new, unchanged or migrated
pub record FindsStore {D : Type 0} {g : Ghosts D} (image : Image) (setup : Lists) (now : Held (FileStore D g)) : Type 0 where
  pub was : Held (FileStore D g)
  pub opened : files.IsOpened was
  pub found : FindsIn image (file_state was)
  pub office : IsOpened setup (file_state was).now (file_state now).now

-- the database in the files was opened. It had none of the office's tables, all of them, or all of schema 1, and the
-- store is trusted if there were no other tables
pub record OpensStore {D : Type 0} {g : Ghosts D} (image : Image) (now : Held (FileStore D g)) : Type 0 where
  pub was : Held (FileStore D g)
  pub opened : files.IsOpened was
  pub found : FindsIn image (file_state was)
  pub taken : IsTakeable (file_state was).now.schema
  pub trusted : IsAlone (file_state was).now → IsTrusted (file_state now)
