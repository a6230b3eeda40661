use Rattle.office_http_requests.proofs.HeadFacts.{head_end, head_some, head_short}
use Rattle.office_http_requests.proofs.head.read_head.Goals as goal

pub returns-in-End-clause-ended : goal.returns-in-End-clause-ended
returns-in-End-clause-ended g c =
    let left = g.R.Feed.left in
    head_end (left c.args.reader.now) (left c.reads.reader) (left c.read_more.new.reader) c.reads.seen.items c.read_more.new.seen.items c.reads.headers c.at_end.result
    c.reads.invariant.took (rw c.in-End.is at c.in_ok-read_more.ensures.drawn) (rw c.as_slice.ensures.value at c.at_end.ensures)

pub returns-in-NoMemory-clause-ended : goal.returns-in-NoMemory-clause-ended
returns-in-NoMemory-clause-ended g c =
    let left = g.R.Feed.left in
    head_short (left c.args.reader.now) (left c.reads.reader) (left c.read_more.new.reader) c.reads.seen.items c.read_more.new.seen.items c.reads.headers
    c.reads.invariant.took (rw c.in-NoMemory.is at c.in_ok-read_more.ensures.drawn)

pub returns-in-Some-clause-ended : goal.returns-in-Some-clause-ended
returns-in-Some-clause-ended g c =
    let left = g.R.Feed.left in
    head_some (left c.args.reader.now) (left c.reads.reader) (left c.read_more.new.reader) c.reads.seen.items c.read_more.new.seen.items c.scan_head.new.headers c.in-Some.ended
    c.reads.invariant.took (rw c.in-Bytes.is at c.in_ok-read_more.ensures.drawn) (rw c.as_slice-in-reads.ensures.value at (c.in-Some.ensures.ends (left c.read_more.new.reader)))
