use Rattle.std.proofs.Common.{ℕ, ◌<◌, slice_index}
use Rattle.office_core_orders.specs.Ready.{HasNumbers}
use Rattle.office_core_store.proofs.LookFacts.{Looked}
use Rattle.office_core_facts.proofs.finished.are_kept.Given as goal

abbrev pub invariant-senders : goal.invariant-senders
invariant-senders g l =
    let trusted = g.K.Keeper.is_trusted in
    let content = g.K.Keeper.content in
    record {
      each : trusted l.keeper → (s : ℕ) → s < l.sender → HasNumbers (content l.fn.keeper).kept s (slice_index l.numbers s);
      looks : Looked g.K.Keeper l.fn.keeper l.keeper;
    }
