use Rattle.std.proofs.Common.{◌<◌, length, ap, ◌∙◌, arith}
use Rattle.std.proofs.lemmas.Result.{err_from_is_err_and}
use Rattle.office_mail.specs.Lists.{Lists}
use Rattle.office_store_keeper.specs.Content.{Content}
use Rattle.office_core_queries.specs.steps.Walk.{told_as}
use Rattle.office_core_queries.proofs.AskFacts.{both_any, both_none, both_then, holds_before, holds_behind}
use Rattle.office_core_queries.proofs.TextLists.{mail_cut, mail_more, senders_none}
use Rattle.office_core_queries.proofs.walk.write_mail.Goals as goal

pub senders-init : goal.senders-init
senders-init g c = record {
  asked = both_none g.K.Keeper c.args.office.now (g.W.Sink.failures c.args.writer.now);
  within = omega arith;
  told = λ h. senders_none (told_as c.args.form (g.K.Keeper.setup c.args.office.now)) (g.K.Keeper.content c.args.office.now).kept (g.W.Sink.written c.args.writer.now);
}

pub returns-in_err-write_sender-clause-front : goal.returns-in_err-write_sender-clause-front
returns-in_err-write_sender-clause-front g c =
    let p = err_from_is_err_and c.from_residual.result c.from_residual.ensures.1 in
    let keeper = g.K.Keeper in
    let written = g.W.Sink.written in
    let s0 = c.args.office.now in
    let s1 = c.senders.office in
    let s2 = c.write_sender.new.office in
    let l = c.senders.invariant in
    let n = c.senders.sender in
    let step = c.in_err-write_sender.ensures in
    let all = ap length (c.senders-sender-end.ensures.same ∙ ap (λ (s : Lists). s.senders) c.setup.ensures.setup) in
    let lt : n < length (keeper.setup s0).senders = omega (arith, c.senders-test.true, all) in
    λ h.
    let h1 = holds_before keeper s0 s1 s2 step.asks.asks h in
    let h2 = holds_behind keeper s0 s1 s2 l.asked.asks step.asks.asks h in
    rw p.1 (mail_cut c.args.form (keeper.setup s1) (keeper.setup s0) (keeper.content s1).kept (keeper.content s0).kept n (length (keeper.setup s0).senders) _ (written c.args.writer.now) (written c.senders.writer) (written c.write_sender.new.writer)
    l.asked.asks.carries.setup (ap (λ (m : Content). m.kept) (l.asked.asks.same h1.0)) lt (l.told h1) (step.front h2) (omega (arith, lt, all, c.senders-sender-end.ensures.few)))

pub senders-preserved : goal.senders-preserved
senders-preserved g c =
    let keeper = g.K.Keeper in
    let written = g.W.Sink.written in
    let failures = g.W.Sink.failures in
    let s0 = c.args.office.now in
    let s1 = c.senders.office in
    let s2 = c.write_sender.new.office in
    let l = c.senders.invariant in
    let n = c.senders.sender in
    let step = c.in_ok-write_sender.ensures in
    let f0 = failures c.args.writer.now in
    let f1 = failures c.senders.writer in
    let f2 = failures c.write_sender.new.writer in
    let all = ap length (c.senders-sender-end.ensures.same ∙ ap (λ (s : Lists). s.senders) c.setup.ensures.setup) in
    let lt : n < length (keeper.setup s0).senders = omega (arith, c.senders-test.true, all) in
    record {
      asked = both_any keeper s0 s2 f0 f2 _ _ (both_then keeper s0 s1 s2 f0 f1 f2 _ l.asked step.asks);
      within = omega (arith, lt);
      told = λ h.
          let h1 = holds_before keeper s0 s1 s2 step.asks.asks h in
          let h2 = holds_behind keeper s0 s1 s2 l.asked.asks step.asks.asks h in
          mail_more c.args.form (keeper.setup s1) (keeper.setup s0) (keeper.content s1).kept (keeper.content s0).kept n _ (written c.args.writer.now) (written c.senders.writer) (written c.write_sender.new.writer)
          l.asked.asks.carries.setup (ap (λ (m : Content). m.kept) (l.asked.asks.same h1.0)) (l.told h1) (step.ok h2) (omega (arith, lt, all, c.senders-sender-end.ensures.few));
    }
