use Rattle.std.proofs.Common.{◌≡◌, slice_index}
use Rattle.office_core_queries.specs.Listing.{stated_to}
use Rattle.office_core_queries.specs.NextOrder.{order_cover}
use Rattle.office_core_queries.proofs.next_order.stated_order.Given as goal

-- what is stated for the senders so far
abbrev pub invariant-senders : goal.invariant-senders
invariant-senders l = l.stated.items ≡ stated_to (order_cover l.setup (slice_index l.unbroken)) l.sender
