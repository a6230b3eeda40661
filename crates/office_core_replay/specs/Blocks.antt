-- Texts that are delivered and answered, however they are kept.
use Rattle.std.specs.Prelude.{◌≡◌, ℕ, Bool, List, map, Option}
use Rattle.std.specs.Io.KnownBytes.{Appends}
use Rattle.office_core_replies.specs.declared.replies.Delivery.{Delivery}
use Rattle.office_core_replies.specs.Replies.{any_lost}
use Rattle.office_core_facts.specs.OfficeState.{OfficeState}
use Rattle.office_core_replay.specs.Output.{reply_lines}
use Rattle.office_core_replay.specs.Losses.{DeliveriesCounted}
use Rattle.office_core_replay.specs.Delivered.{KeepsMail}

-- These texts are delivered and answered, with settles anywhere between or after them; and whether one was lost.
pub record DeliversTexts (before after : OfficeState) (texts : List (List ℕ)) (old new : Option (List ℕ)) (lost : Bool) (rose : Type 0) : Type 0 where
  pub deliveries : List Delivery
  pub same : map (λ d. d.text) deliveries ≡ texts
  pub keeps : KeepsMail before after deliveries
  pub written : Appends old new (reply_lines before.setup before.kept deliveries)
  pub losses : lost ≡ any_lost deliveries
  pub by_store : DeliveriesCounted rose deliveries
