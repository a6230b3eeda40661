-- How the reads of a bag are counted by a call that takes its messages up to its end.
use Rattle.std.specs.Prelude.{◌≡◌, ◌+◌, ◌≤◌, ◌⊎◌, Option, Some, Result, IfOk}
use Rattle.office_mail.specs.BagSteps.{ReadFails}
use Rattle.office_mail.specs.Reading.{Reading}
use Rattle.office_mail.specs.declared.bag.BagFault.{BagFault}
use Rattle.office_mail.specs.declared.bag.BagFault.TheVariants.{ReadFault}

-- If the bag is refused for a read, one failed, or the last of 1,000,000 didn't meet the end. If it isn't, none failed.
-- Each call of the reader is a read that the bag counts.
pub record ReadsBag {T E : Type 0} (start now : Reading) (result : Result T E) (end : T → Option BagFault) : Type 0 where
  pub cause : IfOk result (λ r. end r ≡ Some ReadFault → ReadFails start now)
  pub clean : IfOk result (λ r. (end r ≡ Some ReadFault) ⊎ (now.failures ≡ start.failures))
  pub calls : now.calls + start.reads ≤ start.calls + now.reads
