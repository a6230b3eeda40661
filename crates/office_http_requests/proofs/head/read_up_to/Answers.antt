use Rattle.office_http_requests.proofs.HeadFacts.{fill_end, fill_short}
use Rattle.office_http_requests.proofs.head.read_up_to.Goals as goal

pub returns-in-End-clause-filled : goal.returns-in-End-clause-filled
returns-in-End-clause-filled g c =
    let left = g.R.Feed.left in
    fill_end (left c.args.reader.now) (left c.reads.reader) (left c.read_more.new.reader) c.args.seen.now.items c.reads.seen.items c.read_more.new.seen.items c.args.end
    c.reads.invariant.seen (rw c.in-End.is at c.in_ok-read_more.ensures.drawn)

pub returns-in-NoMemory-clause-filled : goal.returns-in-NoMemory-clause-filled
returns-in-NoMemory-clause-filled g c =
    let left = g.R.Feed.left in
    fill_short (left c.args.reader.now) (left c.reads.reader) (left c.read_more.new.reader) c.args.seen.now.items c.reads.seen.items c.read_more.new.seen.items c.args.end
    c.reads.invariant.seen (rw c.in-NoMemory.is at c.in_ok-read_more.ensures.drawn)
