-- Why a service ends, and its exit status.
use Rattle.std.specs.Prelude.{ℕ, Result, Ok, Err}
use Rattle.office_cli.specs.declared.service.ServiceFault.{ServiceFault}

-- 0 if it served all its connections, else 4
abbrev pub status_of_service : {T : Type 0} → Result T ServiceFault → ℕ
status_of_service (Ok done) = 0
status_of_service (Err fault) = 4
