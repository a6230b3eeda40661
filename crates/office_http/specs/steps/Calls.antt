-- What calls on an office that answer a request leave, and what they answer.
use Rattle.std.specs.Prelude.{ℕ, List, Result, IfOk}
use Rattle.office_store_keeper.specs.declared.keeper.Keeper.{Ghosts}
use Rattle.office_core_store.specs.declared.faults.StoreFault.{StoreFault}
use Rattle.office_core_store.specs.Counted.{Counted}
use Rattle.office_core_facts.specs.State.{state_of}
use Rattle.office_core.specs.Preserves.{Asks, Holds, StoreRefused}
use Rattle.office_http_requests.specs.declared.reply.Answer.{Answer}
use Rattle.office_http_requests.specs.declared.request.Action.{Action}
use Rattle.office_http_requests.specs.steps.Reply.{HasPlace}
use Rattle.office_http.specs.steps.ServeSteps.{Runs}

-- a question leaves what is kept, and the store counts its refusals
pub record AsksCounted {K T : Type 0} (keeper : Ghosts K) (old new : K) (result : Result T StoreFault) : Type 0 where
  pub asks : Asks keeper old new
  pub counted : Counted (keeper.refusals old) (keeper.refusals new) result

-- and if it is answered, a held text in the answer has a sender of the setup
pub record AsksPlaced {K : Type 0} (keeper : Ghosts K) (old new : K) (result : Result Answer StoreFault) : Type 0 where
  pub asks : Asks keeper old new
  pub counted : Counted (keeper.refusals old) (keeper.refusals new) result
  pub place : IfOk result (λ answer. HasPlace (keeper.setup old) answer)

-- a POST with this body is done and answered, wherever the store is trusted and held what an office leaves
abbrev pub RunsAction : {K : Type 0} → Ghosts K → K → K → Action → List ℕ → Answer → Type 0
RunsAction keeper old new action body answer =
    Holds keeper old new → Runs (state_of keeper old) (state_of keeper new) action body answer (StoreRefused keeper old new)
