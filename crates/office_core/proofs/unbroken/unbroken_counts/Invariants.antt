use Rattle.std.proofs.Common.{◌≡◌, ◌<◌, ℕ, length, slice_index}
use Rattle.office_core_facts.specs.Seen.{IsUnbroken}
use Rattle.office_core_orders.specs.Ready.{HasEach, HasPlaces}
use Rattle.office_core_store.proofs.LookFacts.{Looked}
use Rattle.office_core.proofs.unbroken.unbroken_counts.Given as goal

abbrev pub invariant-senders : goal.invariant-senders
invariant-senders g l =
    let trusted = g.K.Keeper.is_trusted in
    let content = g.K.Keeper.content in
    record {
      size : length l.unbroken.items ≡ l.sender;
      each : trusted l.keeper → HasEach (content l.fn.keeper).kept l.counts.items;
      unbroken : trusted l.keeper → HasPlaces l.setup (content l.fn.keeper).kept → (s : ℕ) → s < l.sender → IsUnbroken (content l.fn.keeper).kept s (slice_index l.unbroken.items s);
      looks : Looked g.K.Keeper l.fn.keeper l.keeper;
    }
