-- What answers say of the kept mail, for counting numbers.
use Rattle.std.specs.Prelude.{List, Result, IfOk, IsSome}
use Rattle.std.specs.List.{All}
use Rattle.std.specs.FinMap.{get}
use Rattle.office_mail.specs.Kept.{Kept}
use Rattle.office_core_replies.specs.declared.faults.DeliverFault.{DeliverFault}
use Rattle.office_core_replies.specs.declared.faults.Held.{Held}

-- a message held by the answer is kept
abbrev pub IsKept : Kept → Result Held DeliverFault → Type 0
IsKept kept reply = IfOk reply (λ held. IsSome (get kept (held.sender, held.number)))

-- and so for each of the answers
abbrev pub AreKept : Kept → List (Result Held DeliverFault) → Type 0
AreKept kept replies = All (IsKept kept) replies
