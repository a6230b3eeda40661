-- What a replay of a bag does and writes.
use Rattle.std.specs.Prelude.{◌≡◌, ℕ, ◌⊎◌, List, [], Option, Some, None, Bool, true, not, ◌||◌, if◌then◌else◌, is_some, IsTrue, Result, Ok, Err, IfOk, OnErr}
use Rattle.std.specs.Io.KnownBytes.{Appends}
use Rattle.office_mail.specs.declared.bag.BagFault.{BagFault}
use Rattle.office_mail.specs.declared.feed.Sink.{Ghosts as Writer}
use Rattle.office_mail.specs.Reading.{Reading}
use Rattle.office_mail.specs.Runs.{IsReady, IsReadyCount}
use Rattle.office_store_keeper.specs.declared.keeper.Keeper.{Ghosts}
use Rattle.office_core_store.specs.declared.faults.StoreFault.{StoreFault}
use Rattle.office_core_replies.specs.declared.replies.Delivery.{Delivery}
use Rattle.office_mail.specs.declared.writer.WriteFault.{WriteFault}
use Rattle.office_core_replay.specs.declared.replays.Replayed.{Replayed}
use Rattle.office_core_facts.specs.OfficeState.{OfficeState}
use Rattle.office_core_facts.specs.State.{state_of}
use Rattle.office_core.specs.Preserves.{Holds, StoreRefused}
use Rattle.office_mail.specs.Written.{AppendsFront}
use Rattle.office_core_replies.specs.Replies.{any_lost}
use Rattle.office_core_replay.specs.Output.{Marks, output, or_refused}
use Rattle.office_core_replay.specs.Losses.{is_short, has_refusal, MarksEnd, TextCounted, MarksCounted, DeliveriesCounted}
use Rattle.office_core_replay.specs.Delivered.{CameFrom, KeepsMail, DeliversFront}

-- The course of a replay up to its last text: each message of the bag was delivered. All ready runs are finished if the
-- last settle answered Ok. Also what was missing, and whether anything was lost.
pub record Course (before after : OfficeState) (start now : Reading) (end : Option BagFault) (lost : Bool) (rose : Type 0) : Type 0 where
  pub deliveries : List Delivery
  pub came : CameFrom start now deliveries end
  pub keeps : KeepsMail before after deliveries
  pub ready : IsReady after.setup after.kept after.finished
  pub settled : Bool
  pub settles : IsTrue settled → IsReadyCount after.setup after.kept after.finished
  pub count : ℕ
  pub marks : Marks
  pub each : MarksEnd after before.finished count marks
  pub losses : lost ≡ (((any_lost deliveries || is_short end) || not settled) || has_refusal marks)
  pub by_store : DeliveriesCounted rose deliveries × MarksCounted rose marks

-- a whole replay: its output was written
pub record ReplaysAll (before after : OfficeState) (start now : Reading) (old new : Option (List ℕ)) (replayed : Replayed) (rose : Type 0) : Type 0 where
  pub course : Course before after start now replayed.bag replayed.lost rose
  pub written : Appends old new (output before after course.deliveries replayed.bag course.count course.marks)

-- If the finished count can't be read at the start, nothing is read or changed, and one line is written.
pub record RefusesAll (before after : OfficeState) (start now : Reading) (old new : Option (List ℕ)) (replayed : Replayed) (rose : Type 0) : Type 0 where
  pub fault : StoreFault
  pub same : after ≡ before
  pub nothing_read : now ≡ start
  pub written : Appends old new (or_refused (Some fault) [])
  pub bag : replayed.bag ≡ None
  pub lost : replayed.lost ≡ true
  pub by_store : TextCounted rose (Some fault)

abbrev pub Replays : OfficeState → OfficeState → Reading → Reading → Option (List ℕ) → Option (List ℕ) → Replayed → Type 0 → Type 0
Replays before after start now old new replayed rose = ReplaysAll before after start now old new replayed rose ⊎ RefusesAll before after start now old new replayed rose

-- A replay whose writer failed after the last delivery: a prefix of its output was written.
pub record ReplaysFront (before after : OfficeState) (start now : Reading) (old new : Option (List ℕ)) (rose : Type 0) : Type 0 where
  pub end : Option BagFault
  pub lost : Bool
  pub course : Course before after start now end lost rose
  pub written : AppendsFront old new (output before after course.deliveries end course.count course.marks)

-- A replay whose writer failed at the reply to a delivery: the first messages of the bag were delivered, and a prefix
-- of the replies to them was written.
pub record StopsEarly (before after : OfficeState) (start now : Reading) (old new : Option (List ℕ)) (rose : Type 0) : Type 0 where
  pub delivers : DeliversFront before after start now old new rose
  pub ready : IsReady after.setup after.kept after.finished

-- a prefix of the one line was written
pub record RefusesFront (before after : OfficeState) (start now : Reading) (old new : Option (List ℕ)) (rose : Type 0) : Type 0 where
  pub fault : StoreFault
  pub same : after ≡ before
  pub nothing_read : now ≡ start
  pub written : AppendsFront old new (or_refused (Some fault) [])
  pub by_store : TextCounted rose (Some fault)

abbrev pub StopsReplay : OfficeState → OfficeState → Reading → Reading → Option (List ℕ) → Option (List ℕ) → Type 0 → Type 0
StopsReplay before after start now old new rose =
    StopsEarly before after start now old new rose ⊎ (ReplaysFront before after start now old new rose ⊎ RefusesFront before after start now old new rose)

-- a call replays a bag, wherever the store is trusted and held what an office leaves
abbrev pub ReplaysIn : {K W : Type 0} → Ghosts K → Writer W → K → K → Reading → Reading → W → W → Result Replayed WriteFault → Type 0
ReplaysIn keeper sink old new start behind was now result =
    Holds keeper old new → IfOk result (λ replayed. Replays (state_of keeper old) (state_of keeper new) start behind (sink.written was) (sink.written now) replayed (StoreRefused keeper old new))

-- and what it leaves if its writer failed
abbrev pub StopsIn : {K W : Type 0} → Ghosts K → Writer W → K → K → Reading → Reading → W → W → Result Replayed WriteFault → Type 0
StopsIn keeper sink old new start behind was now result =
    Holds keeper old new → OnErr result (StopsReplay (state_of keeper old) (state_of keeper new) start behind (sink.written was) (sink.written now) (StoreRefused keeper old new))

-- the exit status of a replay
abbrev pub status_of : Result Replayed WriteFault → ℕ
status_of (Err fault) = 4
status_of (Ok replayed) = if replayed.lost then 4 else (if is_some replayed.bag then 3 else 0)
