-- Steps beside `specs/Service.antt`.
use Rattle.std.specs.declared.io.ErrorKind.{ErrorKind}
use Rattle.std.specs.declared.io.ErrorKind.TheVariants.{AddrInUse, PermissionDenied}
use Rattle.std.specs.declared.io.Error.{Error}
use Rattle.office_cli.specs.declared.service.ServiceFault.{ServiceFault}
use Rattle.office_cli.specs.declared.service.ServiceFault.TheVariants.{InUse, Forbidden, Socket}

-- the fault for the system's refusal of a port, by its kind
abbrev pub fault_by : ErrorKind → Error → ServiceFault
fault_by AddrInUse refusal = InUse refusal
fault_by PermissionDenied refusal = Forbidden refusal
fault_by kind refusal = Socket refusal
