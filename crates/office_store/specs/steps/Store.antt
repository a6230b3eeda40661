-- Steps beside `specs/Store.antt`.
use Rattle.office_store_keeper.specs.declared.faults.Cause.TheVariants.{BadRow, Sqlite}
use Rattle.office_store.specs.declared.openings.OpenFault.{OpenFault}
use Rattle.office_store.specs.declared.openings.OpenFault.TheVariants as opening
use Rattle.office_store.specs.declared.store.FileFault.{FileFault}
use Rattle.office_store.specs.declared.store.FileFault.TheVariants as fault

-- the result for a fault in opening the tables
abbrev pub file_fault : OpenFault → FileFault
file_fault opening.NoMemory = fault.NoMemory
file_fault opening.OtherSetup = fault.OtherSetup
file_fault opening.UnknownSchema = fault.UnknownSchema
file_fault (opening.Store BadRow) = fault.Unreadable
file_fault (opening.Store (Sqlite error)) = fault.Failed error
