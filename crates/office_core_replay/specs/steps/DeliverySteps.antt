-- The parts of delivering a bag: one message after another, and the settle that follows each.
use Rattle.std.specs.Prelude.{◌≡◌, ℕ, ◌≤◌, Bool, true, false, List, [], Option, None, is_ok}
use Rattle.std.specs.Io.KnownBytes.{Appends}
use Rattle.office_mail.specs.declared.bag.BagFault.{BagFault}
use Rattle.office_mail.specs.Reading.{Reading}
use Rattle.office_mail.specs.Kept.{kept_from}
use Rattle.office_mail.specs.Runs.{IsReady, IsReadyCount}
use Rattle.office_core_store.specs.declared.faults.StoreFault.{StoreFault}
use Rattle.office_core_replies.specs.declared.replies.Delivery.{Delivery}
use Rattle.office_core_replies.specs.declared.replies.Mark.{Mark}
use Rattle.office_core_facts.specs.OfficeState.{OfficeState}
use Rattle.office_core_facts.specs.State.{answer_to}
use Rattle.office_mail.specs.Written.{AppendsFront}
use Rattle.office_core_replies.specs.Replies.{if_taken, any_lost, reply_line, reply_by}
use Rattle.office_core_replay.specs.Output.{reply_lines}
use Rattle.office_core_replay.specs.Losses.{DeliveryCounted, TextCounted, DeliveriesCounted}
use Rattle.office_core_replay.specs.Delivered.{CameFrom, CameFirst, KeepsMail}

-- the next messages of a bag are delivered and answered; and whether one was lost
pub record Delivers (before after : OfficeState) (start now : Reading) (old new : Option (List ℕ)) (lost : Bool) (rose : Type 0) : Type 0 where
  pub deliveries : List Delivery
  pub came : CameFirst start now deliveries
  pub keeps : KeepsMail before after deliveries
  pub written : Appends old new (reply_lines before.setup before.kept deliveries)
  pub losses : lost ≡ any_lost deliveries
  pub by_store : DeliveriesCounted rose deliveries

-- all messages of a bag are, up to its end
pub record DeliversAll (before after : OfficeState) (start now : Reading) (old new : Option (List ℕ)) (end : Option BagFault) (lost : Bool) (rose : Type 0) : Type 0 where
  pub deliveries : List Delivery
  pub came : CameFrom start now deliveries end
  pub keeps : KeepsMail before after deliveries
  pub written : Appends old new (reply_lines before.setup before.kept deliveries)
  pub losses : lost ≡ any_lost deliveries
  pub by_store : DeliveriesCounted rose deliveries

-- What follows a delivery that is held: a settle, which finishes all ready runs unless it meets a fault.
pub record Settles (before after : OfficeState) (held : Bool) (rose : Type 0) : Type 0 where
  pub setup : after.setup ≡ before.setup
  pub kept : after.kept ≡ before.kept
  pub grows : before.finished ≤ after.finished
  pub still : held ≡ false → after.finished ≡ before.finished
  pub ready : IsReady after.setup after.kept after.finished
  -- the fault that the settle met
  pub met : Option StoreFault
  pub met_by_store : TextCounted rose met
  pub all_ready : held ≡ true → met ≡ None → IsReadyCount after.setup after.kept after.finished

-- one text was delivered, answered, and followed by a settle if it is held
pub record DeliversOne (before after : OfficeState) (text : List ℕ) (mark : Mark) (old new : Option (List ℕ)) (rose : Type 0) : Type 0 where
  pub kept : after.kept ≡ kept_from before.setup before.kept (if_taken mark text [])
  pub setup : after.setup ≡ before.setup
  pub written : Appends old new (reply_line before.setup (reply_by mark (answer_to before.setup before.kept text)))
  pub by_store : DeliveryCounted rose mark
  pub settles : Settles (record { setup = before.setup; kept = after.kept; finished = before.finished }) after (is_ok (reply_by mark (answer_to before.setup before.kept text))) rose

-- one text was delivered, and a prefix of the line that answers it was written; no settle was made
pub record DeliversOneFront (before after : OfficeState) (text : List ℕ) (old new : Option (List ℕ)) (rose : Type 0) : Type 0 where
  pub mark : Mark
  pub kept : after.kept ≡ kept_from before.setup before.kept (if_taken mark text [])
  pub setup : after.setup ≡ before.setup
  pub finished : after.finished ≡ before.finished
  pub ready : IsReady after.setup after.kept after.finished
  pub written : AppendsFront old new (reply_line before.setup (reply_by mark (answer_to before.setup before.kept text)))
  pub by_store : DeliveryCounted rose mark
