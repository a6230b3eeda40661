-- Calls that only look which row of a store doesn't read.
use Rattle.std.specs.Prelude.{◌≡◌, ◌≢◌, ◌⊎◌, ◌≤◌, ℕ, ⊤, Option, None, Result, Ok, Err}
use Rattle.office_mail.specs.Counts.{HasRisen}
use Rattle.office_store_keeper.specs.Provenance.{AreOwnTexts}
use Rattle.office_store_keeper.specs.declared.faults.Cause.TheVariants.{BadRow}
use Rattle.office_store_keeper.specs.declared.faults.KeepFault.{KeepFault}
use Rattle.office_store_keeper.specs.declared.faults.KeepFault.TheVariants.{NoMemory, Store}
use Rattle.office_store_keeper.specs.declared.keeper.Keeper.{Ghosts}
use Rattle.office_core_store.specs.declared.faults.StoreFault.{StoreFault}
use Rattle.office_core_store.specs.declared.faults.StoreFault.TheVariants as fault
use Rattle.office_core_check.specs.declared.Checked.{Checked}
use Rattle.office_core_check.specs.declared.Checked.TheVariants.{Whole, Differs, Unread}

-- the store reads as an office writes it, and each kept text is a message of its place
abbrev pub IsReadable : {K : Type 0} → Ghosts K → K → Type 0
IsReadable keeper store = keeper.is_legible store × AreOwnTexts (keeper.setup store) (keeper.content store).kept

-- a check came to its end, with every row read
abbrev pub IsEnd : Checked → Type 0
IsEnd (Whole runs) = ⊤
IsEnd (Differs difference) = ⊤
IsEnd (Unread part) = ⊥

-- what a fault of a check is told as: where the store refused, a row doesn't read, or it failed for another cause
abbrev pub IsTold : StoreFault → Result Checked KeepFault → Type 0
IsTold fault.NoMemory (Err NoMemory) = ⊤
IsTold fault.NoMemory (Err (Store cause)) = ⊥
IsTold fault.NoMemory (Ok found) = ⊥
IsTold fault.Store (Ok (Unread part)) = ⊤
IsTold fault.Store (Ok found) = ⊥
IsTold fault.Store (Err NoMemory) = ⊥
IsTold fault.Store (Err (Store cause)) = cause ≢ BadRow

-- what a call leaves that only asks, whatever it answers
pub record Asks {K : Type 0} (keeper : Ghosts K) (old new : K) : Type 0 where
  pub same : keeper.is_trusted new → keeper.content new ≡ keeper.content old
  pub setup : keeper.setup new ≡ keeper.setup old
  pub before : keeper.is_trusted new → keeper.is_trusted old
  pub legible : keeper.is_trusted new → keeper.is_legible old → keeper.is_legible new
  pub clean : keeper.is_clean new → keeper.is_clean old
  pub faults : keeper.disk_faults old ≤ keeper.disk_faults new
  pub shut : keeper.is_clean new → keeper.is_trusted old → keeper.is_trusted new ⊎ HasRisen (keeper.disk_faults old) (keeper.disk_faults new)
  pub counts : (n : ℕ) → HasRisen n (keeper.refusals old) → HasRisen n (keeper.refusals new)

-- a call looks for a part of which a row doesn't read: it only asks, and names none if every row reads
pub record LooksForPart {K A : Type 0} (keeper : Ghosts K) (old new : K) (result : Option A) : Type 0 where
  pub none : keeper.is_trusted new → IsReadable keeper old → result ≡ None
  pub asks : Asks keeper old new
