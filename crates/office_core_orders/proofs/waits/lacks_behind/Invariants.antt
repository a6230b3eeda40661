use Rattle.std.proofs.Common.{ℕ, ◌<◌, ◌≤◌, length}
use Rattle.office_mail.specs.Kept.{Kept}
use Rattle.office_core_orders.specs.Ready.{HasEach}
use Rattle.office_core_orders.specs.steps.Ready.{IsReached}
use Rattle.office_core_orders.specs.Waiting.{AreLacks}
use Rattle.office_core_orders.proofs.waits.lacks_behind.Given as goal

abbrev pub invariant-senders : goal.invariant-senders
invariant-senders l = record {
  within : l.sender ≤ length l.setup.senders;
  lacks : (kept : Kept) → HasEach kept l.counts → ((s : ℕ) → s < length l.setup.senders → IsReached kept l.order.covers l.counts s) → AreLacks kept l.order l.sender l.lacks.items;
}
