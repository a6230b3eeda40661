use Rattle.std.proofs.Common.{◌≡◌, ◌⊎◌, ◌≤◌, ◌+◌, ◌-◌, [], length}
use Rattle.std.specs.Io.KnownBytes.{Consumes}
use Rattle.httparse.specs.Grammar.{HasNoRequest}
use Rattle.office_http_requests.specs.Request.{head_room, field_room}
use Rattle.office_http_requests.proofs.head.read_head.Given as goal

abbrev pub invariant-reads : goal.invariant-reads
invariant-reads g l = record {
  room : length l.headers ≡ field_room;
  short : length l.seen.items ≤ head_room;
  took : Consumes (g.R.Feed.left l.fn.reader) (g.R.Feed.left l.reader) l.seen.items;
  none : (l.seen.items ≡ []) ⊎ HasNoRequest l.seen.items;
  calls : g.R.Feed.calls l.reader ≤ g.R.Feed.calls l.fn.reader + length l.seen.items;
  failures : g.R.Feed.failures l.reader ≡ g.R.Feed.failures l.fn.reader;
}

abbrev pub decreases-reads : goal.decreases-reads
decreases-reads g l = head_room - length l.seen.items
