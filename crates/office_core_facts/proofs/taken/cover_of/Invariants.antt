use Rattle.std.proofs.Common.{◌≡◌, drop, max}
use Rattle.office_mail.specs.Runs.{cover_of}
use Rattle.office_core_facts.proofs.taken.cover_of.Given as goal

abbrev pub invariant-orders : goal.invariant-orders
invariant-orders l = max l.cover (cover_of (drop l.order-index l.orders) l.sender) ≡ cover_of l.orders l.sender
