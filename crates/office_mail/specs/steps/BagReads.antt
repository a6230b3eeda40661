-- How the bytes of a bag are read: what waits, what arrived of a message, and where reading stopped.
use Rattle.std.specs.Prelude.{◌≡◌, ℕ, ◌+◌, ◌<◌, ◌≤◌, Some, List, length}
use Rattle.std.specs.Io.KnownBytes.{Consumes}
use Rattle.office_mail.specs.Bag.{handed}
use Rattle.office_mail.specs.Reading.{Reading}
use Rattle.office_mail.specs.declared.bag.BagFault.{BagFault}
use Rattle.office_mail.specs.declared.bag.BagFault.TheVariants.{BadHeader, Truncated, ReadFault, NoMemory}
use Rattle.office_mail.specs.BagSteps.{MeetsEnd, CountsEach}

-- the counts continue, each read is one call and each call a read, and the bag is open if it was
pub record GoesOn (before after : Reading) : Type 0 where
  pub failures : before.failures ≤ after.failures
  pub counts : CountsEach before after
  pub calls : after.calls + before.reads ≤ before.calls + after.reads
  pub room : after.room ≤ before.room
  pub ended : after.ended ≡ before.ended

-- the next n bytes are a message; all of it except the surplus is returned
pub record TakesBody (before after : Reading) (n : ℕ) (message : List ℕ) : Type 0 where
  pub whole : List ℕ
  pub size : length whole ≡ n
  pub same : message ≡ handed whole
  pub took : Consumes before.left after.left whole

-- some bytes arrived and wait to be returned
pub record Waits (now : Reading) : Type 0 where
  pub bytes : List ℕ
  pub came : Consumes now.left now.unread bytes

-- fewer than n bytes arrived; memory may run out anywhere
abbrev pub IsShort : BagFault → ℕ → List ℕ → Type 0
IsShort BadHeader n rest = ⊥
IsShort Truncated n rest = length rest < n
IsShort ReadFault n rest = length rest < n
IsShort NoMemory n rest = Unit {0}

-- the next n bytes don't arrive
pub record BreaksOff (before after : Reading) (n : ℕ) (fault : BagFault) : Type 0 where
  pub rest : List ℕ
  pub came : Consumes before.left after.unread rest
  pub short : IsShort fault n rest
  pub met : MeetsEnd (Some fault) after
