-- What a request leaves of the runs that were finished before.
use Rattle.std.proofs.Common.{⊎_elim, ℕ, List, Option, Some, None, sym, subst}
use Rattle.office_mail.specs.Kept.{Within}
use Rattle.office_mail.proofs.KeptFacts.{kept_from-Within}
use Rattle.office_core_store.specs.declared.faults.StoreFault.{StoreFault}
use Rattle.office_http_requests.specs.declared.request.Action.{Action}
use Rattle.office_http.specs.declared.serve.ServeFault.{ServeFault}
use Rattle.office_http.specs.declared.serve.ServeFault.TheVariants.{Read, Write}
use Rattle.office_http.specs.Serve.{delivered_by, kept_by, Does}
use Rattle.office_http.specs.steps.ServeSteps.{ServesHead, StopsRequest}
use Rattle.office_core_facts.specs.OfficeState.{OfficeState}
use Rattle.office_core_replay.proofs.StandFacts.{Grows, grows_same}

within_by : (s : OfficeState) (action : Action) (body : List ℕ) (fault : Option StoreFault) → Within s.kept (kept_by s action body fault)
within_by s action body fault = kept_from-Within s.setup s.kept (delivered_by s.setup (Some (action, body)) fault)

grows_does : (before after : OfficeState) (post : Option (Action × List ℕ)) (fault : Option StoreFault) (ready : ℕ) (rose : Type 0) → Does before after post fault ready rose → Grows before after
grows_does before after None fault ready rose h = grows_same before after h
grows_does before after (Some post) fault ready rose m = record { kept = subst (Within before.kept) (sym m.kept) (within_by before post.0 post.1 fault); finished = m.grows }

pub grows_request : (rose : Type 0) (before after : OfficeState) (l0 l1 w0 w1 : Option (List ℕ)) (seen : List ℕ) (code : ℕ) → ServesHead before after l0 l1 w0 w1 seen code rose → Grows before after
grows_request rose before after l0 l1 w0 w1 seen code s = grows_does before after _ s.exchange.fault s.exchange.found.ready rose s.exchange.does

pub grows_stop : (rose : Type 0) (before after : OfficeState) (l0 l1 w0 w1 : Option (List ℕ)) (seen : List ℕ) (f : ServeFault) → StopsRequest before after l0 l1 w0 w1 seen f rose → Grows before after
grows_stop rose before after l0 l1 w0 w1 seen Read s = grows_same before after s.same
grows_stop rose before after l0 l1 w0 w1 seen Write s =
    ⊎_elim (λ stop. grows_same before after stop.same) (λ front. grows_does before after _ front.exchange.fault front.exchange.found.ready rose front.exchange.does) s
