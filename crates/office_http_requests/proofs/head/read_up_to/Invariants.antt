use Rattle.std.proofs.Common.{◌≡◌, ◌≤◌, ◌+◌, ◌-◌, length}
use Rattle.office_http_requests.proofs.HeadFacts.{IsWithin, Seen}
use Rattle.office_http_requests.proofs.head.read_up_to.Given as goal

abbrev pub invariant-reads : goal.invariant-reads
invariant-reads g l = record {
  seen : Seen (g.R.Feed.left l.fn.reader) (g.R.Feed.left l.reader) l.fn.seen.items l.seen.items;
  within : IsWithin (length l.fn.seen.items) (length l.seen.items) l.end;
  calls : g.R.Feed.calls l.reader + length l.fn.seen.items ≤ g.R.Feed.calls l.fn.reader + length l.seen.items;
  failures : g.R.Feed.failures l.reader ≡ g.R.Feed.failures l.fn.reader;
}

abbrev pub decreases-reads : goal.decreases-reads
decreases-reads g l = l.end - length l.seen.items
