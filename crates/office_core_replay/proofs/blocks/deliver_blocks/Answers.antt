use Rattle.std.proofs.Common.{ℕ, List, subst, ◌∙◌, refl, arith}
use Rattle.std.proofs.lemmas.Result.{err_from_is_err_and}
use Rattle.office_mail.proofs.BagFacts.{counts_same, counts_twice}
use Rattle.office_core_replay.specs.Blocks.{DeliversTexts}
use Rattle.office_core_replay.specs.steps.BlockSteps.{DeliversTextsFront}
use Rattle.office_core.specs.Preserves.{StoreRefused}
use Rattle.office_core_facts.specs.State.{state_of}
use Rattle.office_core_replay.proofs.BlockFacts.{delivers_texts, delivers_last, block_stop}
use Rattle.office_core.proofs.CarryFacts.{carries_none, carries_twice, holds_first, holds_next, refused_first, refused_next}
use Rattle.office_core_replay.proofs.DeliverFacts.{delivers_none}
use Rattle.office_core_replay.proofs.blocks.deliver_blocks.Goals as goal

pub rounds-init : goal.rounds-init
rounds-init g c =
    let s = c.args.office.now in
    record {
      carries = carries_none g.K.Keeper s;
      so_far = λ h. delivers_none (state_of g.K.Keeper s) c.args.bag.now (g.W.Sink.written c.args.writer.now) (StoreRefused g.K.Keeper s s);
      room = c.requires.room;
      open_yet = c.requires.open;
      reads = refl;
      calls = omega arith;
      counts = counts_same c.args.bag.now;
      failures = refl;
    }

pub rounds-preserved : goal.rounds-preserved
rounds-preserved g c =
    let keeper = g.K.Keeper in
    let written = g.W.Sink.written in
    let s0 = c.args.office.now in
    let s1 = c.rounds.office in
    let s2 = c.deliver_block.new.office in
    let l = c.rounds.invariant in
    let step = c.in_ok-lost_more.ensures in
    let took = c.in-Ok.ensures in
    let texts : List (List ℕ) = c.take_texts-taken.new.texts.items in
    let w0 = written c.args.writer.now in
    let w1 = written c.rounds.writer in
    let w2 = written c.deliver_block.new.writer in
    record {
      carries = carries_twice keeper s0 s1 s2 l.carries step.carries;
      so_far = λ h. delivers_texts (StoreRefused keeper s0 s1) (StoreRefused keeper s1 s2) (StoreRefused keeper s0 s2) c.rounds.lost c.in_ok-lost_more.lost_more c.either-lost.result (state_of keeper s0) (state_of keeper s1) (state_of keeper s2)
          c.args.bag.now c.rounds.bag c.take_texts-taken.new.bag texts w0 w1 w2 (l.so_far (holds_first keeper s0 s1 s2 step.carries h)) (refused_first keeper s0 s1 s2 step.carries) took.took
          (subst (λ (ts : List (List ℕ)). DeliversTexts (state_of keeper s1) (state_of keeper s2) ts w1 w2 c.in_ok-lost_more.lost_more (StoreRefused keeper s1 s2)) c.deref.ensures.value (step.ok (holds_next keeper s0 s1 s2 l.carries step.carries h)))
          (refused_next keeper s0 s1 s2 l.carries) c.either-lost.ensures;
      room = omega (arith, l.room, c.clear.ensures.capacity, c.take_texts-taken.ensures.capacity);
      open_yet = took.open;
      reads = took.clean ∙ l.reads;
      calls = omega (arith, l.calls, c.take_texts-taken.ensures.calls);
      counts = counts_twice c.args.bag.now c.rounds.bag c.take_texts-taken.new.bag l.counts c.take_texts-taken.ensures.counts;
      failures = step.failures.clean ∙ l.failures;
    }

pub returns-in_err-lost_more-clause-front : goal.returns-in_err-lost_more-clause-front
returns-in_err-lost_more-clause-front g c =
    let p = err_from_is_err_and c.from_residual.result c.from_residual.ensures.1 in
    let keeper = g.K.Keeper in
    let written = g.W.Sink.written in
    let s0 = c.args.office.now in
    let s1 = c.rounds.office in
    let s2 = c.deliver_block.new.office in
    let l = c.rounds.invariant in
    let step = c.in_err-lost_more.ensures in
    let took = c.take_texts-taken.ensures in
    let texts : List (List ℕ) = c.take_texts-taken.new.texts.items in
    let w0 = written c.args.writer.now in
    let w1 = written c.rounds.writer in
    let w2 = written c.deliver_block.new.writer in
    λ h. rw p.1 (block_stop (StoreRefused keeper s0 s1) (StoreRefused keeper s1 s2) (StoreRefused keeper s0 s2) c.rounds.lost (state_of keeper s0) (state_of keeper s1) (state_of keeper s2)
    c.args.bag.now c.rounds.bag c.take_texts-taken.new.bag texts w0 w1 w2 c.take_texts-taken.result took.took took.last (l.so_far (holds_first keeper s0 s1 s2 step.carries h)) (refused_first keeper s0 s1 s2 step.carries)
    (subst (λ (ts : List (List ℕ)). DeliversTextsFront (state_of keeper s1) (state_of keeper s2) ts w1 w2 (StoreRefused keeper s1 s2)) c.deref.ensures.value (step.front (holds_next keeper s0 s1 s2 l.carries step.carries h)))
    (refused_next keeper s0 s1 s2 l.carries))

pub returns-in-Err-clause-all : goal.returns-in-Err-clause-all
returns-in-Err-clause-all g c =
    let keeper = g.K.Keeper in
    let written = g.W.Sink.written in
    let s0 = c.args.office.now in
    let s1 = c.rounds.office in
    let s2 = c.deliver_block.new.office in
    let l = c.rounds.invariant in
    let step = c.in_ok-lost_more.ensures in
    let texts : List (List ℕ) = c.take_texts-taken.new.texts.items in
    let w0 = written c.args.writer.now in
    let w1 = written c.rounds.writer in
    let w2 = written c.deliver_block.new.writer in
    λ h. delivers_last (StoreRefused keeper s0 s1) (StoreRefused keeper s1 s2) (StoreRefused keeper s0 s2) c.rounds.lost c.in_ok-lost_more.lost_more c.either-lost.result (state_of keeper s0) (state_of keeper s1) (state_of keeper s2)
    c.args.bag.now c.rounds.bag c.take_texts-taken.new.bag texts w0 w1 w2 c.in-Err.end (l.so_far (holds_first keeper s0 s1 s2 step.carries h)) (refused_first keeper s0 s1 s2 step.carries) c.in-Err.ensures.last
    (subst (λ (ts : List (List ℕ)). DeliversTexts (state_of keeper s1) (state_of keeper s2) ts w1 w2 c.in_ok-lost_more.lost_more (StoreRefused keeper s1 s2)) c.deref.ensures.value (step.ok (holds_next keeper s0 s1 s2 l.carries step.carries h)))
    (refused_next keeper s0 s1 s2 l.carries) c.either-lost.ensures

pub returns-in_err-lost_more-clause-counts : goal.returns-in_err-lost_more-clause-counts
returns-in_err-lost_more-clause-counts g c = counts_twice c.args.bag.now c.rounds.bag c.take_texts-taken.new.bag c.rounds.invariant.counts c.take_texts-taken.ensures.counts

pub returns-in-Err-clause-counts : goal.returns-in-Err-clause-counts
returns-in-Err-clause-counts g c = counts_twice c.args.bag.now c.rounds.bag c.take_texts-taken.new.bag c.rounds.invariant.counts c.take_texts-taken.ensures.counts
