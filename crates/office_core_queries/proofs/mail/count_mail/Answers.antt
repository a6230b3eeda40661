use Rattle.std.proofs.Common.{◌==◌, ◌+◌, ℕ, true, None, Some, sym, ap, subst, ◌∙◌, refl, ◌≤◌, arith}
use Rattle.office_store_keeper.specs.Content.{Content, IsNextNumber}
use Rattle.office_core_queries.specs.declared.mail.MailCount.{MailCount}
use Rattle.office_core_queries.specs.steps.Numbers.{IsAbove, IsCountSoFar}
use Rattle.office_core_queries.proofs.AskFacts.{asked_any, asked_none, asked_then, holds_before, holds_behind}
use Rattle.office_core_queries.proofs.CountFacts.{count_all, count_more, count_none, unbroken_within}
use Rattle.office_core_queries.proofs.mail.count_mail.Goals as goal

pub loop-number-init : goal.loop-number-init
loop-number-init g c = record {
  asked = asked_none g.K.Keeper c.args.office.now;
  few = omega arith;
  sender = refl;
  count = omega arith;
  unbroken = omega arith;
  so_far = λ h. count_none (g.K.Keeper.content c.args.office.now).kept c.args.sender;
}

pub loop-number-preserved : goal.loop-number-preserved
loop-number-preserved g c =
    let keeper = g.K.Keeper in
    let s0 = c.args.office.now in
    let s1 = c.loop-number.office in
    let s2 = c.next_above.new.office in
    let kept = (keeper.content s0).kept in
    let l = c.loop-number.invariant in
    let step = c.in_ok-number.ensures in
    let so : MailCount = c.loop-number.counted in
    let n : ℕ = c.in-Some.number in
    let above : IsAbove so.greatest (Some n) = subst (IsAbove so.greatest) c.in-Some.is step.above in
    let is = sym c.with_number-counted.ensures in
    record {
      asked = asked_any keeper s0 s2 _ true (asked_then keeper s0 s1 s2 _ l.asked step.asks);
      few = subst (λ (m : MailCount). m.greatest ≤ 999_999_999) is above.1;
      sender = ap (λ (m : MailCount). m.sender) c.with_number-counted.ensures ∙ l.sender;
      count = subst (λ (m : MailCount). m.count ≤ m.greatest) is (omega (arith, l.count, above.0));
      unbroken = subst (λ (m : MailCount). m.unbroken ≤ m.greatest) is (unbroken_within (n == so.unbroken + 1) n so.unbroken (omega (arith, l.unbroken, above.0)));
      so_far = λ h.
          let h1 = holds_before keeper s0 s1 s2 step.asks.asks h in
          let h2 = holds_behind keeper s0 s1 s2 l.asked.asks step.asks.asks h in
          let next : IsNextNumber kept c.args.sender (so.greatest + 1) c.in_ok-number.field-0 =
          subst (λ (m : Content). IsNextNumber m.kept c.args.sender (so.greatest + 1) c.in_ok-number.field-0) (l.asked.asks.same h1.0) (step.next h2) in
          let own : IsNextNumber kept so.sender (so.greatest + 1) (Some n) =
          subst (IsNextNumber kept so.sender (so.greatest + 1)) c.in-Some.is (subst (λ (s : ℕ). IsNextNumber kept s (so.greatest + 1) c.in_ok-number.field-0) (sym l.sender) next) in
          subst (IsCountSoFar kept) is (count_more kept so n (l.so_far h1) above.0 own);
    }

pub returns-clause-counts : goal.returns-clause-counts
returns-clause-counts g c = λ h.
    let keeper = g.K.Keeper in
    let s0 = c.args.office.now in
    let s1 = c.loop-number.office in
    let s2 = c.next_above.new.office in
    let kept = (keeper.content s0).kept in
    let l = c.loop-number.invariant in
    let step = c.in_ok-number.ensures in
    let so : MailCount = c.loop-number.counted in
    let h1 = holds_before keeper s0 s1 s2 step.asks.asks h in
    let h2 = holds_behind keeper s0 s1 s2 l.asked.asks step.asks.asks h in
    let next : IsNextNumber kept c.args.sender (so.greatest + 1) c.in_ok-number.field-0 =
    subst (λ (m : Content). IsNextNumber m.kept c.args.sender (so.greatest + 1) c.in_ok-number.field-0) (l.asked.asks.same h1.0) (step.next h2) in
    let own : IsNextNumber kept so.sender (so.greatest + 1) None =
    subst (IsNextNumber kept so.sender (so.greatest + 1)) c.in_default.is (subst (λ (s : ℕ). IsNextNumber kept s (so.greatest + 1) c.in_ok-number.field-0) (sym l.sender) next) in
    count_all kept so (l.so_far h1) own l.few
