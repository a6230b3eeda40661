use Rattle.std.proofs.Common.{drop}
use Rattle.std.proofs.lemmas.Result.{err_from_is_err_and}
use Rattle.office_http_requests.specs.declared.request.Asked.TheVariants as asks
use Rattle.office_core.specs.Preserves.{StoreRefused}
use Rattle.office_core_facts.specs.State.{state_of}
use Rattle.office_http.proofs.ServeFacts.{whole_answers, broken_answers, short_answers, short_body, post_body, few_body, stopped_writing, stopped_body}
use Rattle.office_http.proofs.serve.answer_post.Goals as goal

pub returns-in-Whole-clause-ok : goal.returns-in-Whole-clause-ok
returns-in-Whole-clause-ok g c =
    let left = g.R.Feed.left in
    let written = g.W.Sink.written in
    let f = rw c.in-Whole.is at c.in_ok-read_up_to.ensures.filled in
    let b = post_body c.args.seen.now.items c.read_up_to.new.seen.items f.taken c.args.start c.args.posted.length f.is.0 c.requires f.is.1 in
    let keeper = g.K.Keeper in
    let s0 = c.args.office.now in
    let s1 = c.run.new.office in
    λ h. whole_answers (StoreRefused keeper s0 s1) (state_of keeper s0) (state_of keeper s1) (left c.args.reader.now) (left c.read_up_to.new.reader) (written c.args.writer.now) (written c.write_continue.new.writer)
    (drop c.args.start c.args.seen.now.items) c.args.posted c.run.result f.taken _ f.took (few_body c.args.seen.now.items f.taken c.args.start c.args.posted.length c.requires f.few) b.0 (c.run.ensures.runs h) (rw c.deref.ensures.value b.1) c.in_ok-write_continue.ensures.ok

pub returns-in-BrokenOff-clause-ok : goal.returns-in-BrokenOff-clause-ok
returns-in-BrokenOff-clause-ok g c =
    let left = g.R.Feed.left in
    let written = g.W.Sink.written in
    let f = rw c.in-BrokenOff.is at c.in_ok-read_up_to.ensures.filled in
    let s = c.args.office.now in
    λ h. broken_answers (StoreRefused g.K.Keeper s s) (state_of g.K.Keeper s) (left c.args.reader.now) (left c.read_up_to.new.reader) (written c.args.writer.now) (written c.write_continue.new.writer)
    (drop c.args.start c.args.seen.now.items) c.args.posted f.taken f.took (few_body c.args.seen.now.items f.taken c.args.start c.args.posted.length c.requires f.few)
    (short_body c.args.seen.now.items c.read_up_to.new.seen.items f.taken c.args.start c.args.posted.length f.is.0 c.requires f.is.1) f.is.2 c.in_ok-write_continue.ensures.ok

pub returns-in-NoMemory-clause-ok : goal.returns-in-NoMemory-clause-ok
returns-in-NoMemory-clause-ok g c =
    let left = g.R.Feed.left in
    let written = g.W.Sink.written in
    let f = rw c.in-NoMemory.is at c.in_ok-read_up_to.ensures.filled in
    let s = c.args.office.now in
    λ h. short_answers (StoreRefused g.K.Keeper s s) (state_of g.K.Keeper s) (left c.args.reader.now) (left c.read_up_to.new.reader) (written c.args.writer.now) (written c.write_continue.new.writer)
    (drop c.args.start c.args.seen.now.items) (asks.Post c.args.posted) f.taken c.args.posted.waits f.took (few_body c.args.seen.now.items f.taken c.args.start c.args.posted.length c.requires f.few) c.in_ok-write_continue.ensures.ok (λ h. h)

pub returns-in_err-write_continue-clause-err : goal.returns-in_err-write_continue-clause-err
returns-in_err-write_continue-clause-err g c =
    let p = err_from_is_err_and c.from_residual.result c.from_residual.ensures.1 in
    let w = g.W.Sink.written in
    let e = c.in_err-write_continue.ensures in
    λ t. rw p.1 (stopped_writing (state_of g.K.Keeper c.args.office.now) (g.R.Feed.left c.args.reader.now) (w c.args.writer.now) (w c.write_continue.new.writer) c.args.posted e.waits e.err)

pub returns-in_err-read_up_to-clause-err : goal.returns-in_err-read_up_to-clause-err
returns-in_err-read_up_to-clause-err g c =
    let p = err_from_is_err_and c.from_residual-in_err-read_up_to.result c.from_residual-in_err-read_up_to.ensures.1 in
    let left = g.R.Feed.left in
    let w = g.W.Sink.written in
    λ t. rw p.1 (stopped_body (state_of g.K.Keeper c.args.office.now) (left c.args.reader.now) (left c.read_up_to.new.reader) (w c.args.writer.now) (w c.write_continue.new.writer) c.args.posted c.args.start _ c.requires
    c.in_err-read_up_to.ensures.failed c.in_ok-write_continue.ensures.ok)
