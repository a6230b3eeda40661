use Rattle.std.proofs.Common.{◌≡◌, ◌<◌, ◌≤◌, ℕ, length, slice_index}
use Rattle.testing_rules_model.specs.StandsFor.{StandsFor}
use Rattle.testing_rules_model.specs.Suite.{Suite}
use Rattle.office_core_facts.specs.steps.Walk.{said_within}
use Rattle.office_core_store.proofs.LookFacts.{Looked}
use Rattle.office_core_facts.proofs.finished.take_to.Given as goal

abbrev pub invariant-senders : goal.invariant-senders
invariant-senders g l =
    let trusted = g.K.Keeper.is_trusted in
    let content = g.K.Keeper.content in
    record {
      stand : trusted l.keeper → (t : Suite) → StandsFor l.fn.known.facts (said_within l.setup (content l.fn.keeper).kept (slice_index l.fn.known.taken.items) (length l.setup.senders)) t
          → StandsFor l.known.facts (said_within l.setup (content l.fn.keeper).kept (slice_index l.known.taken.items) (length l.setup.senders)) t;
      done : (s : ℕ) → s < l.sender → slice_index l.known.taken.items s ≡ slice_index l.covers s;
      ahead : (s : ℕ) → s < length l.setup.senders → slice_index l.known.taken.items s ≤ slice_index l.covers s;
      looks : Looked g.K.Keeper l.fn.keeper l.keeper;
    }
