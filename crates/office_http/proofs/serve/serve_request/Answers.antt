use Rattle.std.proofs.Common.{inr, sym, subst, ◌∙◌}
use Rattle.std.proofs.lemmas.Result.{err_from_is_err_and}
use Rattle.office_mail.specs.Lists.{Lists}
use Rattle.office_http_requests.specs.Asked.{asked_of}
use Rattle.office_core.specs.Preserves.{StoreRefused}
use Rattle.office_http_requests.specs.steps.Reply.{HasPlace}
use Rattle.office_core_facts.specs.State.{state_of}
use Rattle.office_http.proofs.ServeFacts.{asked_due, asked_fits, served_head, served_front, stopped_asked, stopped_request}
use Rattle.office_http.proofs.serve.serve_request.Goals as goal

pub answer_request-requires-clause-fits : goal.answer_request-requires-clause-fits
answer_request-requires-clause-fits g c =
    let setup = g.K.Keeper.setup c.args.office.now in
    let h = c.requires.head in
    asked_fits setup c.ok-asked.result h.head
    (asked_due setup c.asked_of.result c.ok-asked.result c.args.seen.now.items c.args.head.headers.now c.args.head.spans h.head c.ok-asked.ensures.value (rw (c.as_slice-2.ensures.value, c.setup.ensures.setup) at c.asked_of.ensures) h.parts)

pub write_answer-requires : goal.write_answer-requires
write_answer-requires g c =
    let same = c.setup-2.ensures.setup ∙ c.in_ok-answer.ensures.carries.setup in
    subst (λ (l : Lists). HasPlace l c.in_ok-answer.answer) (sym same) c.in_ok-answer.ensures.place

pub returns-in_err-write_answer-clause-err : goal.returns-in_err-write_answer-clause-err
returns-in_err-write_answer-clause-err g c =
    let keeper = g.K.Keeper in
    let s0 = c.args.office.now in
    let s1 = c.answer_request.new.office in
    let left = g.R.Feed.left in
    let written = g.W.Sink.written in
    let h = c.requires.head in
    let asked = asked_due (g.K.Keeper.setup c.args.office.now) c.asked_of.result c.ok-asked.result c.args.seen.now.items c.args.head.headers.now c.args.head.spans h.head c.ok-asked.ensures.value (rw (c.as_slice-2.ensures.value, c.setup.ensures.setup) at c.asked_of.ensures) h.parts in
    let same = c.setup-2.ensures.setup ∙ c.in_ok-answer.ensures.carries.setup in
    let is_head = (rw c.as_slice.ensures.value at c.is_head_method-is_head.ensures) c.args.head.headers.now h.head h.parts in
    let p = err_from_is_err_and c.from_residual-in_err-write_answer.result c.from_residual-in_err-write_answer.ensures.1 in
    λ t. rw (p.1, p.2) (inr (served_front (StoreRefused keeper s0 s1) (state_of keeper s0) (state_of keeper s1) (left c.args.reader.now) (left c.answer_request.new.reader) (written c.args.writer.now) (written c.answer_request.new.writer) (written c.write_answer.new.writer)
    c.args.seen.now.items c.args.head.headers.now c.args.head.spans c.setup-2.result.now c.in_ok-answer.answer c.is_head_method-is_head.result h (c.in_ok-answer.ensures.ok t (asked_of (g.K.Keeper.setup c.args.office.now) h.head) asked) is_head same c.in_err-write_answer.ensures.writes.err))

pub returns-clause-ok : goal.returns-clause-ok
returns-clause-ok g c =
    let keeper = g.K.Keeper in
    let s0 = c.args.office.now in
    let s1 = c.answer_request.new.office in
    let left = g.R.Feed.left in
    let written = g.W.Sink.written in
    let h = c.requires.head in
    let asked = asked_due (g.K.Keeper.setup c.args.office.now) c.asked_of.result c.ok-asked.result c.args.seen.now.items c.args.head.headers.now c.args.head.spans h.head c.ok-asked.ensures.value (rw (c.as_slice-2.ensures.value, c.setup.ensures.setup) at c.asked_of.ensures) h.parts in
    let same = c.setup-2.ensures.setup ∙ c.in_ok-answer.ensures.carries.setup in
    let is_head = (rw c.as_slice.ensures.value at c.is_head_method-is_head.ensures) c.args.head.headers.now h.head h.parts in
    λ t. served_head (StoreRefused keeper s0 s1) (state_of keeper s0) (state_of keeper s1) (left c.args.reader.now) (left c.answer_request.new.reader) (written c.args.writer.now) (written c.answer_request.new.writer) (written c.write_answer.new.writer)
    c.args.seen.now.items c.args.head.headers.now c.args.head.spans c.setup-2.result.now c.in_ok-answer.answer c.is_head_method-is_head.result c.in_ok-write_answer.field-0 h (c.in_ok-answer.ensures.ok t (asked_of (g.K.Keeper.setup c.args.office.now) h.head) asked) is_head same c.in_ok-write_answer.ensures.code c.in_ok-write_answer.ensures.writes.ok

pub returns-in_err-answer-clause-err : goal.returns-in_err-answer-clause-err
returns-in_err-answer-clause-err g c =
    let keeper = g.K.Keeper in
    let s0 = state_of keeper c.args.office.now in
    let s1 = state_of keeper c.answer_request.new.office in
    let l0 = g.R.Feed.left c.args.reader.now in
    let l1 = g.R.Feed.left c.answer_request.new.reader in
    let w0 = g.W.Sink.written c.args.writer.now in
    let w1 = g.W.Sink.written c.answer_request.new.writer in
    let h = c.requires.head in
    let asked = asked_due (g.K.Keeper.setup c.args.office.now) c.asked_of.result c.ok-asked.result c.args.seen.now.items c.args.head.headers.now c.args.head.spans h.head c.ok-asked.ensures.value (rw (c.as_slice-2.ensures.value, c.setup.ensures.setup) at c.asked_of.ensures) h.parts in
    let p = err_from_is_err_and c.from_residual.result c.from_residual.ensures.1 in
    λ t. rw (p.1, p.2) (stopped_request (StoreRefused keeper c.args.office.now c.answer_request.new.office) s0 s1 l0 l1 w0 w1 c.args.seen.now.items _
    (stopped_asked s0 s1 l0 l1 w0 w1 c.ok-asked.result c.args.seen.now.items c.args.head.headers.now c.args.head.spans h asked (c.in_err-answer.ensures.err t.0)))
