use Rattle.std.proofs.Common.{⊎_elim, ◌≡◌, ◌<◌, ◌≤◌, ℕ, length, slice_index, ap, arith}
use Rattle.std.proofs.lemmas.Bool.{cases_lt}
use Rattle.std.proofs.lemmas.List.{get_or_past}
use Rattle.office_mail.specs.Runs.{cover_of}
use Rattle.office_core_facts.proofs.KnownStand.{pushed_covers}
use Rattle.office_core_facts.proofs.covered.covers.Goals as goal

pub senders-init : goal.senders-init
senders-init c = record {
  size = ap length c.new-taken.ensures.items;
  same = λ s low. absurd (omega (arith, low));
}

pub senders-preserved : goal.senders-preserved
senders-preserved c =
    let so = c.senders.invariant in
    let covers : ℕ → ℕ = cover_of c.args.orders.now in
    let pushed = pushed_covers c.senders.taken.items c.push.new.self.items c.cover_of.result c.senders.sender covers so.size so.same c.in_ok-push.ensures.items c.cover_of.ensures in
    record { size = pushed.0; same = pushed.1 }

pub returns-clause-covers : goal.returns-clause-covers
returns-clause-covers c = λ s low.
    let all : length c.args.setup.now.senders ≤ c.senders.sender = omega (arith, c.senders-test.false, c.senders.auto.sender-end, ap length c.senders-sender-end.ensures.same) in
    c.senders.invariant.same s (omega (arith, low, all))

pub returns-clause-within : goal.returns-clause-within
returns-clause-within c = λ s. ⊎_elim
    (λ (lt : s < c.senders.sender). let is = c.senders.invariant.same s lt in omega (arith, is))
    (λ (le : c.senders.sender ≤ s). let past : slice_index c.senders.taken.items s ≡ 0 = get_or_past c.senders.taken.items s 0 (omega (arith, le, c.senders.invariant.size)) in omega (arith, past))
    (cases_lt s c.senders.sender)
