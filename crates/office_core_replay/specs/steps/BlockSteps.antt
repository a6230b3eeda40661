-- A block of deliveries: its texts are taken from a bag, answered and kept together, and their lines are written.
use Rattle.std.specs.Prelude.{◌≡◌, ℕ, List, map, flat_map, Option}
use Rattle.std.specs.List.{AllByRecursion}
use Rattle.std.specs.Io.KnownBytes.{Consumes}
use Rattle.office_mail.specs.declared.bag.BagFault.{BagFault}
use Rattle.office_mail.specs.Bag.{framed, handed, HasHeader}
use Rattle.office_mail.specs.BagSteps.{Stops}
use Rattle.office_mail.specs.Reading.{Reading}
use Rattle.office_core_replies.specs.declared.replies.Delivery.{Delivery}
use Rattle.office_mail.specs.Written.{AppendsFront}
use Rattle.office_core_facts.specs.OfficeState.{OfficeState}
use Rattle.office_core_replay.specs.Output.{reply_lines}
use Rattle.office_core_replay.specs.Losses.{DeliveriesCounted}
use Rattle.office_core_replay.specs.Delivered.{CameFrom, KeepsMail}

-- a prefix of the lines that answer these texts is written
pub record DeliversTextsFront (before after : OfficeState) (texts : List (List ℕ)) (old new : Option (List ℕ)) (rose : Type 0) : Type 0 where
  pub deliveries : List Delivery
  pub same : map (λ d. d.text) deliveries ≡ texts
  pub keeps : KeepsMail before after deliveries
  pub written : AppendsFront old new (reply_lines before.setup before.kept deliveries)
  pub by_store : DeliveriesCounted rose deliveries

-- these texts are the next messages of a bag
pub record TakesTexts (start now : Reading) (texts : List (List ℕ)) : Type 0 where
  pub messages : List (List ℕ)
  pub each : AllByRecursion HasHeader messages
  pub took : Consumes start.left now.left (flat_map framed messages)
  pub same : texts ≡ map handed messages

-- and the bag stops after them
pub record TakesLast (start now : Reading) (texts : List (List ℕ)) (end : Option BagFault) : Type 0 where
  pub behind : Reading
  pub took : TakesTexts start behind texts
  pub stops : Stops behind now end

-- All messages of a bag are delivered, up to its end, and a prefix of the lines that answer them is written.
pub record DeliversLastFront (before after : OfficeState) (start now : Reading) (old new : Option (List ℕ)) (rose : Type 0) : Type 0 where
  pub deliveries : List Delivery
  pub end : Option BagFault
  pub came : CameFrom start now deliveries end
  pub keeps : KeepsMail before after deliveries
  pub written : AppendsFront old new (reply_lines before.setup before.kept deliveries)
  pub by_store : DeliveriesCounted rose deliveries
