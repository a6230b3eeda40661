use Rattle.std.proofs.Common.{◌≡◌, ◌<◌, ◌≤◌, ℕ, length, slice_index}
use Rattle.office_mail.specs.Runs.{cover_of, orders_to}
use Rattle.office_core_facts.specs.State.{IsOffice}
use Rattle.office_core_store.proofs.LookFacts.{Looked}
use Rattle.office_core_facts.specs.Seen.{IsUnbroken}
use Rattle.office_core_facts.proofs.seen.seen_covers.Given as goal

abbrev pub invariant-senders : goal.invariant-senders
invariant-senders g l =
    let trusted = g.K.Keeper.is_trusted in
    let content = g.K.Keeper.content in
    record {
      size : length l.covers.items ≡ l.sender;
      unbroken : trusted l.keeper → IsOffice l.setup (content l.fn.keeper) → l.orders ≡ orders_to l.setup (content l.fn.keeper).kept (length (content l.fn.keeper).reports)
          → (s : ℕ) → s < l.sender → IsUnbroken (content l.fn.keeper).kept s (slice_index l.covers.items s);
      ahead : (s : ℕ) → s < l.sender → cover_of l.orders s ≤ slice_index l.covers.items s;
      looks : Looked g.K.Keeper l.fn.keeper l.keeper;
    }
