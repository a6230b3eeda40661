use Rattle.std.proofs.Common.{◌≡◌, ◌+◌, ◌<◌, ◌≤◌, ℕ, length, slice_index}
use Rattle.testing_rules_model.specs.StandsFor.{StandsFor}
use Rattle.office_mail.specs.Runs.{cover_of}
use Rattle.office_core_facts.specs.Known.{AreUnderWay}
use Rattle.office_core_orders.specs.steps.Ready.{FirstOrders}
use Rattle.office_core_facts.specs.State.{IsOffice}
use Rattle.office_core_facts.specs.steps.Walk.{said_within}
use Rattle.office_core_store.proofs.LookFacts.{Looked}
use Rattle.office_core_facts.proofs.covered.facts.Given as goal

abbrev pub invariant-senders : goal.invariant-senders
invariant-senders g l =
    let trusted = g.K.Keeper.is_trusted in
    let content = g.K.Keeper.content in
    record {
      way : trusted l.keeper → AreUnderWay l.setup (content l.fn.keeper) l.known.facts;
      stand : trusted l.keeper → IsOffice l.setup (content l.fn.keeper) → FirstOrders l.setup (content l.fn.keeper).kept l.orders → length l.orders ≡ length (content l.fn.keeper).reports + 1
          → StandsFor l.known.facts (said_within l.setup (content l.fn.keeper).kept (slice_index l.known.taken.items) (length l.setup.senders)) (content l.fn.keeper).testing;
      done : (s : ℕ) → s < l.sender → slice_index l.known.taken.items s ≡ cover_of l.orders s;
      ahead : (s : ℕ) → slice_index l.known.taken.items s ≤ cover_of l.orders s;
      looks : Looked g.K.Keeper l.fn.keeper l.keeper;
    }
