-- What delivering the messages of a bag does.
use Rattle.std.specs.Prelude.{◌≡◌, ℕ, ◌≤◌, List, map, flat_map, Option}
use Rattle.std.specs.List.{AllByRecursion}
use Rattle.std.specs.Io.KnownBytes.{Consumes}
use Rattle.office_mail.specs.declared.bag.BagFault.{BagFault}
use Rattle.office_mail.specs.Bag.{IsBag, framed, handed, HasHeader}
use Rattle.office_mail.specs.Reading.{Reading}
use Rattle.office_mail.specs.BagSteps.{MeetsEnd}
use Rattle.office_mail.specs.Kept.{kept_from}
use Rattle.office_mail.specs.Runs.{IsReady}
use Rattle.office_core_replies.specs.declared.replies.Delivery.{Delivery}
use Rattle.office_core_facts.specs.OfficeState.{OfficeState}
use Rattle.office_mail.specs.Written.{AppendsFront}
use Rattle.office_core_replies.specs.Replies.{not_lost}
use Rattle.office_core_replay.specs.Output.{reply_lines}
use Rattle.office_core_replay.specs.Losses.{DeliveriesCounted}

-- The deliveries are the messages that came from a bag, up to this end. If its bytes are known, they are what came, and
-- then what the reader still has.
pub record CameFrom (start now : Reading) (deliveries : List Delivery) (end : Option BagFault) : Type 0 where
  pub came : List ℕ
  pub messages : List (List ℕ)
  pub took : Consumes start.left now.unread came
  pub bag : IsBag came messages end
  pub met : MeetsEnd end now
  pub same : map (λ d. d.text) deliveries ≡ map handed messages

-- the deliveries are the next messages of a bag
pub record CameFirst (start now : Reading) (deliveries : List Delivery) : Type 0 where
  pub messages : List (List ℕ)
  pub each : AllByRecursion HasHeader messages
  pub took : Consumes start.left now.left (flat_map framed messages)
  pub same : map (λ d. d.text) deliveries ≡ map handed messages

-- The office after deliveries and settles keeps what it kept, and what came without the losses; the same runs are
-- finished, and maybe more; and each of them is ready.
pub record KeepsMail (before after : OfficeState) (deliveries : List Delivery) : Type 0 where
  pub setup : after.setup ≡ before.setup
  pub kept : after.kept ≡ kept_from before.setup before.kept (not_lost deliveries)
  pub grows : before.finished ≤ after.finished
  pub ready : IsReady before.setup before.kept before.finished → IsReady after.setup after.kept after.finished

-- the next messages are delivered, and a prefix of the lines that answer them is written
pub record DeliversFront (before after : OfficeState) (start now : Reading) (old new : Option (List ℕ)) (rose : Type 0) : Type 0 where
  pub deliveries : List Delivery
  pub came : CameFirst start now deliveries
  pub keeps : KeepsMail before after deliveries
  pub written : AppendsFront old new (reply_lines before.setup before.kept deliveries)
  pub by_store : DeliveriesCounted rose deliveries
