use Rattle.std.proofs.Common.{◌≡◌, ◌++◌, ◌∷◌, [], List, ℕ, ap, ◌∙◌, refl, arith}
use Rattle.office_mail.proofs.BagFacts.{counts_twice}
use Rattle.office_core_replay.proofs.BlockFacts.{takes_more}
use Rattle.office_core_replay.proofs.DeliverFacts.{not_true, unfailed}
use Rattle.office_core_replay.proofs.blocks.take_texts.Goals as goal

pub returns-then-bytes-ge-FULL-clause-took : goal.returns-then-bytes-ge-FULL-clause-took
returns-then-bytes-ge-FULL-clause-took g c =
    let took = rw c.in-Ok-Some.field-0-is at c.in-Ok-Some.ensures.message in
    let pushed : c.push_reserved.new.self.items ≡ c.messages.texts.items ++ c.in-Ok-Some.text.items ∷ [] = c.push_reserved.ensures.items ∙ ap (λ (t : List ℕ). c.messages.texts.items ++ t ∷ []) c.of.ensures in
    rw pushed (takes_more c.args.bag.now c.messages.bag c.next.new.self c.messages.texts.items c.in-Ok-Some.text.items c.messages.invariant.took took)

pub messages-preserved : goal.messages-preserved
messages-preserved g c =
    let l = c.messages.invariant in
    let took = rw c.in-Ok-Some.field-0-is at c.in-Ok-Some.ensures.message in
    let nearer = rw c.in-Ok-Some.field-0-is at c.in-Ok-Some.ensures.room in
    let pushed : c.push_reserved.new.self.items ≡ c.messages.texts.items ++ c.in-Ok-Some.text.items ∷ [] = c.push_reserved.ensures.items ∙ ap (λ (t : List ℕ). c.messages.texts.items ++ t ∷ []) c.of.ensures in
    record {
      took = rw pushed (takes_more c.args.bag.now c.messages.bag c.next.new.self c.messages.texts.items c.in-Ok-Some.text.items l.took took);
      room = omega (arith, c.if-len-capacity.false, c.len-else-bytes-ge-FULL.ensures, c.capacity.ensures);
      capacity = c.push_reserved.ensures.capacity ∙ l.capacity;
      open_yet = not_true c.next.new.self.ended (λ t. cc (c.in-Ok-Some.ensures.ends.0 t, c.in-Ok-Some.field-0-is));
      smaller = omega (arith, nearer refl, l.smaller);
      failures = unfailed c.in-Ok-Some.field-0 c.messages.bag.failures c.next.new.self.failures c.in-Ok-Some.ensures.clean ∙ l.failures;
      calls = omega (arith, l.calls, c.next.ensures.calls);
      counts = counts_twice c.args.bag.now c.messages.bag c.next.new.self l.counts c.next.ensures.counts;
    }

pub returns-then-bytes-ge-FULL-clause-counts : goal.returns-then-bytes-ge-FULL-clause-counts
returns-then-bytes-ge-FULL-clause-counts g c = counts_twice c.args.bag.now c.messages.bag c.next.new.self c.messages.invariant.counts c.next.ensures.counts

pub returns-in-Ok-None-clause-counts : goal.returns-in-Ok-None-clause-counts
returns-in-Ok-None-clause-counts g c = counts_twice c.args.bag.now c.messages.bag c.next.new.self c.messages.invariant.counts c.next.ensures.counts

pub returns-in-Err-clause-counts : goal.returns-in-Err-clause-counts
returns-in-Err-clause-counts g c = counts_twice c.args.bag.now c.messages.bag c.next.new.self c.messages.invariant.counts c.next.ensures.counts
