use Rattle.std.proofs.Common.{⊎_elim, ◌≡◌, ◌<◌, ◌≤◌, ℕ, List, length, slice_index, sym, ap, subst, arith}
use Rattle.std.proofs.lemmas.Bool.{cases_eq, cases_lt}
use Rattle.std.proofs.lemmas.List.{get_or_past}
use Rattle.office_store_keeper.specs.Content.{Content}
use Rattle.office_core_orders.specs.Ready.{HasNumbers}
use Rattle.office_core_store.proofs.LookFacts.{looked_then}
use Rattle.office_core_facts.proofs.finished.are_kept.Goals as goal

pub count_on-requires : goal.count_on-requires
count_on-requires g c = record { known = λ trusted j low high. absurd (omega (arith, low, high)) }

pub senders-preserved : goal.senders-preserved
senders-preserved g c =
    let so = c.senders.invariant in
    let next = c.in_ok-last.ensures in
    let content : Content = g.K.Keeper.content c.args.keeper.now in
    let numbers : List ℕ = c.args.numbers.now in
    let n = c.senders.sender in
    record {
      each = λ trusted s below.
          let earlier = next.looks.before trusted in
          let own : HasNumbers content.kept n c.in_ok-last.last = subst (λ (m : Content). HasNumbers m.kept n c.in_ok-last.last) (so.looks.same earlier) (next.each trusted) in
          ⊎_elim
          (λ (same : s ≡ n). subst (λ (k : ℕ). HasNumbers content.kept k (slice_index numbers k)) (sym same) (λ j low high. own j low (omega (arith, high, c.cover_at-number.ensures, c.if-last-number.false))))
          (λ other. so.each earlier s (omega (arith, below, other)))
          (cases_eq s n);
      looks = looked_then g.K.Keeper c.args.keeper.now c.senders.keeper c.count_on.new.keeper so.looks next.looks;
    }

pub returns-clause-each : goal.returns-clause-each
returns-clause-each g c = λ trusted kept s.
    let numbers : List ℕ = c.args.numbers.now in
    let count : ℕ = length c.args.setup.now.senders in
    let all : count ≤ c.senders.sender = omega (arith, c.senders-test.false, c.senders.auto.sender-end, ap length c.senders-sender-end.ensures.same) in
    let few : length numbers ≤ count = c.are_few.ensures c.if-not-are_few.false in
    ⊎_elim
    (λ (lt : s < c.senders.sender). c.senders.invariant.each trusted s lt)
    (λ (le : c.senders.sender ≤ s). λ j low high. let past : slice_index numbers s ≡ 0 = get_or_past numbers s 0 (omega (arith, le, all, few)) in absurd (omega (arith, low, high, past)))
    (cases_lt s c.senders.sender)
