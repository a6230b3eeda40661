-- The life of an office: requests, replays, and its store opened again, one after another.
use Rattle.std.specs.Prelude.{◌≡◌, ℕ, List, [], ◌∷◌, Option}
use Rattle.office_mail.specs.Lists.{Lists}
use Rattle.office_store_keeper.specs.Content.{Content}
use Rattle.office_store_keeper.specs.declared.keeper.Keeper.{Ghosts}
use Rattle.office_core_replies.specs.Replies.{not_lost}
use Rattle.office_core_store.specs.declared.faults.StoreFault.{StoreFault}
use Rattle.office_core_replies.specs.declared.replies.Delivery.{Delivery}
use Rattle.office_core_facts.specs.State.{state_of}
use Rattle.office_core.specs.History.{Leads, Step, texts_in}
use Rattle.office_core.specs.Preserves.{Holds, Preserves, StoreRefused}
use Rattle.office_core_replay.specs.Delivered.{KeepsMail}
use Rattle.office_http_requests.specs.declared.request.Action.{Action}
use Rattle.office_http.specs.Serve.{Does, delivered_by}

pub data Event : Type 0 where
  -- a request was served: what it posts with its whole body, and the fault that was met
  ByRequest : Option (Action × List ℕ) → Option StoreFault → Event
  -- a bag was replayed: its messages, as they were delivered
  ByReplay : List Delivery → Event
  -- the office ended, and its store was opened again
  Reopened : Event

-- a store that is opened again holds what was left, and reads as it did
pub record IsReopened {K : Type 0} (keeper : Ghosts K) (old new : K) : Type 0 where
  pub trusted : keeper.is_trusted old
  pub setup : keeper.setup new ≡ keeper.setup old
  pub same : keeper.content new ≡ keeper.content old
  pub legible : keeper.is_legible old → keeper.is_legible new

-- what the calls ensure of such an event: `serve_one` and `replay` say it if the store is trusted after them
abbrev pub Happens : {K : Type 0} → Ghosts K → Event → K → K → Type 0
Happens keeper (ByRequest post fault) old new = Preserves keeper old new × (Holds keeper old new → (ready : ℕ) × Does (state_of keeper old) (state_of keeper new) post fault ready (StoreRefused keeper old new))
Happens keeper (ByReplay deliveries) old new = Preserves keeper old new × (Holds keeper old new → KeepsMail (state_of keeper old) (state_of keeper new) deliveries)
Happens keeper Reopened old new = IsReopened keeper old new

-- the events, one after another, lead from one store to another
unfoldable pub Lives : {K : Type 0} → Ghosts K → K → List Event → K → Type 0
Lives keeper old [] new = new ≡ old
Lives {K} keeper old (e ∷ es) new = (between : K) × Happens keeper e old between × Lives keeper between es new

-- one event led from a store to another
pub record IsEvent {K : Type 0} (keeper : Ghosts K) (old new : K) : Type 0 where
  pub event : Event
  pub happens : Happens keeper event old new

-- the texts that came by an event
abbrev pub texts_of : Lists → Event → List (List ℕ)
texts_of setup (ByRequest post fault) = delivered_by setup post fault
texts_of setup (ByReplay deliveries) = not_lost deliveries
texts_of setup Reopened = []

-- steps of the headline lead from one content to another, and just these texts came by them
pub record IsLedBy (setup : Lists) (texts : List (List ℕ)) (old new : Content) : Type 0 where
  pub steps : List Step
  pub came : texts_in steps ≡ texts
  pub leads : Leads setup old steps new
