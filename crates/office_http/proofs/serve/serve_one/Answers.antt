use Rattle.std.proofs.Common.{[], arith}
use Rattle.std.proofs.KnownBytes.{Consumes-nil}
use Rattle.office_http_requests.specs.declared.reply.Refusal.TheVariants as refusal
use Rattle.office_core.specs.Preserves.{StoreRefused}
use Rattle.office_core_facts.specs.State.{state_of}
use Rattle.office_http.proofs.ServeFacts.{unread_ok, unread_err}
use Rattle.office_http.proofs.serve.serve_one.Goals as goal

pub returns-clause-ok : goal.returns-clause-ok
returns-clause-ok g c =
    let left = g.R.Feed.left c.args.reader.now in
    λ h. unread_ok (StoreRefused g.K.Keeper c.args.office.now c.args.office.now) (state_of g.K.Keeper c.args.office.now) left left (g.W.Sink.written c.args.writer.now) (g.W.Sink.written c.refuse.new.writer) [] refusal.NoMemory c.refuse.result (Consumes-nil left) (omega arith) tt c.refuse.ensures.code c.refuse.ensures.ok

pub returns-clause-err : goal.returns-clause-err
returns-clause-err g c =
    let left = g.R.Feed.left c.args.reader.now in
    λ h. unread_err (StoreRefused g.K.Keeper c.args.office.now c.args.office.now) (state_of g.K.Keeper c.args.office.now) left left (g.W.Sink.written c.args.writer.now) (g.W.Sink.written c.refuse.new.writer) [] refusal.NoMemory c.refuse.result (Consumes-nil left) (omega arith) tt c.refuse.ensures.err
