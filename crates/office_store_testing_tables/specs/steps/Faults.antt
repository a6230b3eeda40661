-- Which faults calls over the tables report.
use Rattle.std.specs.Prelude.{◌≡◌, ◌≢◌, Result, Err}
use Rattle.office_store_keeper.specs.declared.faults.KeepFault.{KeepFault}
use Rattle.office_store_keeper.specs.declared.faults.KeepFault.TheVariants.{Store}
use Rattle.office_store_keeper.specs.declared.faults.Cause.TheVariants.{BadRow}

-- a call reports that no office wrote a row
abbrev pub IsBad : {T : Type 0} → Result T KeepFault → Type 0
IsBad result = result ≡ Err (Store BadRow)

-- a call doesn't report that
abbrev pub NeverBad : {T : Type 0} → Result T KeepFault → Type 0
NeverBad result = result ≢ Err (Store BadRow)
