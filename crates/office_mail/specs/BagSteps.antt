-- Which bytes a call on a bag read, if they are known, and how it stopped.
use Rattle.std.specs.Prelude.{◌≡◌, ℕ, ◌+◌, ◌-◌, ◌*◌, ◌≤◌, ◌⊎◌, min, Option, Some, None, List, true, false, length}
use Rattle.std.specs.Io.KnownBytes.{Consumes, IsAtEnd}
use Rattle.office_mail.specs.Bag.{HasHeader, EndsSo, framed, handed}
use Rattle.office_mail.specs.Counts.{HasRisen, most}
use Rattle.office_mail.specs.Reading.{Reading}
use Rattle.office_mail.specs.declared.bag.BagFault.{BagFault}
use Rattle.office_mail.specs.declared.bag.BagFault.TheVariants.{BadHeader, Truncated, ReadFault, NoMemory}

-- a message came next; all of it except the surplus is returned
pub record TakesMessage (before after : Reading) (message : List ℕ) : Type 0 where
  pub whole : List ℕ
  pub announced : HasHeader whole
  pub same : message ≡ handed whole
  pub took : Consumes before.left after.left (framed whole)

-- if the bag ends with the input, the end of the input has been met
abbrev pub MeetsEnd : Option BagFault → Reading → Type 0
MeetsEnd None now = (now.met_end ≡ true) × IsAtEnd now.unread
MeetsEnd (Some BadHeader) now = Unit {0}
MeetsEnd (Some Truncated) now = (now.met_end ≡ true) × IsAtEnd now.unread
MeetsEnd (Some ReadFault) now = Unit {0}
MeetsEnd (Some NoMemory) now = Unit {0}

-- the bag ends after the returned messages; `rest` is everything else that arrived
pub record Stops (before after : Reading) (end : Option BagFault) : Type 0 where
  pub rest : List ℕ
  pub came : Consumes before.left after.unread rest
  pub ends : EndsSo end rest
  pub met : MeetsEnd end after

-- a read failed, or 1,000,000 reads didn't meet the end
abbrev pub ReadFails : Reading → Reading → Type 0
ReadFails before after =
    HasRisen before.failures after.failures ⊎ ((after.reads ≡ 1_000_000) × (after.met_end ≡ false))

-- the reader gave at most 8,192 bytes for each read that the bag counts
pub record ReadsPieces (before after : Reading) : Type 0 where
  pub bytes : List ℕ
  pub came : Consumes before.unread after.unread bytes
  pub few : length bytes ≤ 8192 * (after.reads - before.reads)

-- the bag's count of reads continues. Each counted read is a call of the reader, whose count rose equally, up to the
-- greatest, and gave at most 8,192 bytes
abbrev pub CountsEach : Reading → Reading → Type 0
CountsEach before after =
    (before.reads ≤ after.reads) × (min (before.calls + (after.reads - before.reads)) most ≤ after.calls) × ReadsPieces before after
