use Rattle.std.proofs.lemmas.Result.{err_from_is_err_and}
use Rattle.office_http_requests.specs.declared.reply.Refusal.TheVariants as refusal
use Rattle.office_core.specs.Preserves.{StoreRefused}
use Rattle.office_core_facts.specs.State.{state_of}
use Rattle.office_http.proofs.ServeFacts.{replied_head, stopped_head, stopped_reading, unread_ok, unread_err}
use Rattle.office_core_replay.proofs.StandFacts.{stand_after}
use Rattle.office_http.proofs.ConnectionFacts.{grows_request, grows_stop}
use Rattle.office_http.proofs.serve.serve_with_routes.Goals as goal

pub returns-in_err-code-in-Head-clause-err : goal.returns-in_err-code-in-Head-clause-err
returns-in_err-code-in-Head-clause-err g c =
    let left = g.R.Feed.left in
    let written = g.W.Sink.written in
    let r = rw c.in-Head.is at c.in_ok-read_head.ensures.ended in
    let p = err_from_is_err_and c.from_residual-in_err-code-in-Head.result c.from_residual-in_err-code-in-Head.ensures.1 in
    λ h. rw (p.1, p.2) (stopped_head (StoreRefused g.K.Keeper c.args.office.now c.serve_request.new.office) (state_of g.K.Keeper c.args.office.now) (state_of g.K.Keeper c.serve_request.new.office) (left c.args.reader.now) (left c.read_head.new.reader) (left c.serve_request.new.reader) (written c.args.writer.now) (written c.serve_request.new.writer)
    c.read_head.new.seen.items r.input _ r.took r.is.0 r.few (c.in_err-code-in-Head.ensures.err h))

pub returns-in_err-code-in-Head-clause-runs : goal.returns-in_err-code-in-Head-clause-runs
returns-in_err-code-in-Head-clause-runs g c =
    let keeper = g.K.Keeper in
    let s0 = c.args.office.now in
    let s1 = c.serve_request.new.office in
    let left = g.R.Feed.left in
    let written = g.W.Sink.written in
    let e = c.in_err-code-in-Head.ensures in
    λ h. stand_after keeper s0 s1 e.carries h (grows_stop (StoreRefused keeper s0 s1) (state_of keeper s0) (state_of keeper s1) (left c.read_head.new.reader) (left c.serve_request.new.reader) (written c.args.writer.now) (written c.serve_request.new.writer) c.read_head.new.seen.items _ (e.err h))

pub returns-in-Head-clause-runs : goal.returns-in-Head-clause-runs
returns-in-Head-clause-runs g c =
    let keeper = g.K.Keeper in
    let s0 = c.args.office.now in
    let s1 = c.serve_request.new.office in
    let left = g.R.Feed.left in
    let written = g.W.Sink.written in
    let e = c.in_ok-code-in-Head.ensures in
    λ h. stand_after keeper s0 s1 e.carries h (grows_request (StoreRefused keeper s0 s1) (state_of keeper s0) (state_of keeper s1) (left c.read_head.new.reader) (left c.serve_request.new.reader) (written c.args.writer.now) (written c.serve_request.new.writer) c.read_head.new.seen.items c.in_ok-code-in-Head.code (e.ok h))

pub returns-in-Head-clause-ok : goal.returns-in-Head-clause-ok
returns-in-Head-clause-ok g c =
    let left = g.R.Feed.left in
    let written = g.W.Sink.written in
    let r = rw c.in-Head.is at c.in_ok-read_head.ensures.ended in
    λ h. replied_head (StoreRefused g.K.Keeper c.args.office.now c.serve_request.new.office) (state_of g.K.Keeper c.args.office.now) (state_of g.K.Keeper c.serve_request.new.office) (left c.args.reader.now) (left c.read_head.new.reader) (left c.serve_request.new.reader) (written c.args.writer.now) (written c.serve_request.new.writer)
    c.read_head.new.seen.items r.input c.in_ok-code-in-Head.code r.took r.is.0 (c.in_ok-code-in-Head.ensures.ok h)

pub returns-in-HeadTooLarge-clause-ok : goal.returns-in-HeadTooLarge-clause-ok
returns-in-HeadTooLarge-clause-ok g c =
    let left = g.R.Feed.left in
    let written = g.W.Sink.written in
    let r = rw c.in-HeadTooLarge.is at c.in_ok-read_head.ensures.ended in
    λ h. unread_ok (StoreRefused g.K.Keeper c.args.office.now c.args.office.now) (state_of g.K.Keeper c.args.office.now) (left c.args.reader.now) (left c.read_head.new.reader) (written c.args.writer.now) (written c.refuse.new.writer) r.input refusal.HeadTooLarge c.refuse.result r.took r.few r.is c.refuse.ensures.code c.refuse.ensures.ok

pub returns-in-HeadTooLarge-clause-err : goal.returns-in-HeadTooLarge-clause-err
returns-in-HeadTooLarge-clause-err g c =
    let left = g.R.Feed.left in
    let written = g.W.Sink.written in
    let r = rw c.in-HeadTooLarge.is at c.in_ok-read_head.ensures.ended in
    λ h. unread_err (StoreRefused g.K.Keeper c.args.office.now c.args.office.now) (state_of g.K.Keeper c.args.office.now) (left c.args.reader.now) (left c.read_head.new.reader) (written c.args.writer.now) (written c.refuse.new.writer) r.input refusal.HeadTooLarge c.refuse.result r.took r.few r.is c.refuse.ensures.err

pub returns-in-BadRequest-clause-ok : goal.returns-in-BadRequest-clause-ok
returns-in-BadRequest-clause-ok g c =
    let left = g.R.Feed.left in
    let written = g.W.Sink.written in
    let r = rw c.in-BadRequest.is at c.in_ok-read_head.ensures.ended in
    λ h. unread_ok (StoreRefused g.K.Keeper c.args.office.now c.args.office.now) (state_of g.K.Keeper c.args.office.now) (left c.args.reader.now) (left c.read_head.new.reader) (written c.args.writer.now) (written c.refuse-in-BadRequest.new.writer) r.input refusal.BadRequest c.refuse-in-BadRequest.result r.took r.few r.is c.refuse-in-BadRequest.ensures.code c.refuse-in-BadRequest.ensures.ok

pub returns-in-BadRequest-clause-err : goal.returns-in-BadRequest-clause-err
returns-in-BadRequest-clause-err g c =
    let left = g.R.Feed.left in
    let written = g.W.Sink.written in
    let r = rw c.in-BadRequest.is at c.in_ok-read_head.ensures.ended in
    λ h. unread_err (StoreRefused g.K.Keeper c.args.office.now c.args.office.now) (state_of g.K.Keeper c.args.office.now) (left c.args.reader.now) (left c.read_head.new.reader) (written c.args.writer.now) (written c.refuse-in-BadRequest.new.writer) r.input refusal.BadRequest c.refuse-in-BadRequest.result r.took r.few r.is c.refuse-in-BadRequest.ensures.err

pub returns-clause-ok : goal.returns-clause-ok
returns-clause-ok g c =
    let left = g.R.Feed.left in
    let written = g.W.Sink.written in
    let r = rw c.in-NoMemory.is at c.in_ok-read_head.ensures.ended in
    λ h. unread_ok (StoreRefused g.K.Keeper c.args.office.now c.args.office.now) (state_of g.K.Keeper c.args.office.now) (left c.args.reader.now) (left c.read_head.new.reader) (written c.args.writer.now) (written c.refuse-in-NoMemory.new.writer) r.input refusal.NoMemory c.refuse-in-NoMemory.result r.took r.few r.is c.refuse-in-NoMemory.ensures.code c.refuse-in-NoMemory.ensures.ok

pub returns-clause-err : goal.returns-clause-err
returns-clause-err g c =
    let left = g.R.Feed.left in
    let written = g.W.Sink.written in
    let r = rw c.in-NoMemory.is at c.in_ok-read_head.ensures.ended in
    λ h. unread_err (StoreRefused g.K.Keeper c.args.office.now c.args.office.now) (state_of g.K.Keeper c.args.office.now) (left c.args.reader.now) (left c.read_head.new.reader) (written c.args.writer.now) (written c.refuse-in-NoMemory.new.writer) r.input refusal.NoMemory c.refuse-in-NoMemory.result r.took r.few r.is c.refuse-in-NoMemory.ensures.err

pub returns-in_err-read_head-clause-err : goal.returns-in_err-read_head-clause-err
returns-in_err-read_head-clause-err g c =
    let left = g.R.Feed.left in
    let p = err_from_is_err_and c.from_residual.result c.from_residual.ensures.1 in
    λ h. rw (p.1, p.2) (stopped_reading (state_of g.K.Keeper c.args.office.now) (left c.args.reader.now) (left c.read_head.new.reader) (g.W.Sink.written c.args.writer.now) c.in_err-read_head.ensures.failed)
