use Rattle.std.proofs.Common.{◌≡◌, slice_index}
use Rattle.office_core_queries.specs.Listing.{stated_to}
use Rattle.office_core_queries.proofs.covers.stated_covers.Given as goal

-- what is stated for the senders so far
abbrev pub invariant-senders : goal.invariant-senders
invariant-senders l = l.stated.items ≡ stated_to (slice_index l.covers) l.sender
