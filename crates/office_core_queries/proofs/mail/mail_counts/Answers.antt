use Rattle.std.proofs.Common.{◌≡◌, ◌<◌, ◌+◌, true, length, sym, ap, subst, ◌∙◌, arith}
use Rattle.office_mail.specs.Lists.{Lists}
use Rattle.office_store_keeper.specs.Content.{Content}
use Rattle.office_core_queries.specs.declared.mail.MailCount.{MailCount}
use Rattle.office_core_queries.specs.Mail.{AreMailCounts, IsMailCount}
use Rattle.office_core_queries.proofs.AskFacts.{asked_any, asked_then, holds_before, holds_behind}
use Rattle.office_core_queries.proofs.CountFacts.{counts_more}
use Rattle.office_core_queries.proofs.mail.mail_counts.Goals as goal

pub senders-preserved : goal.senders-preserved
senders-preserved g c =
    let keeper = g.K.Keeper in
    let s0 = c.args.office.now in
    let s1 = c.senders.office in
    let s2 = c.count_mail.new.office in
    let kept = (keeper.content s0).kept in
    let l = c.senders.invariant in
    let n = c.senders.sender in
    let step = c.in_ok-count_mail.ensures in
    let counted : MailCount = c.in_ok-count_mail.field-0 in
    let all = ap length (c.senders-sender-end.ensures.same ∙ ap (λ (s : Lists). s.senders) c.setup.ensures.setup) in
    let lt : n < length (keeper.setup s0).senders = omega (arith, c.senders-test.true, all) in
    let at : counted.sender ≡ n = omega (arith, step.sender, lt, all, c.senders-sender-end.ensures.few) in
    record {
      asked = asked_any keeper s0 s2 _ true (asked_then keeper s0 s1 s2 _ l.asked step.asks);
      within = omega (arith, lt);
      are = λ h.
          let h1 = holds_before keeper s0 s1 s2 step.asks.asks h in
          let h2 = holds_behind keeper s0 s1 s2 l.asked.asks step.asks.asks h in
          let is : IsMailCount kept counted = subst (λ (m : Content). IsMailCount m.kept counted) (l.asked.asks.same h1.0) (step.counts h2) in
          subst (AreMailCounts kept (n + 1)) (sym c.in_ok-push.ensures.items) (counts_more kept n c.senders.counts.items counted (l.are h1) is at);
    }
