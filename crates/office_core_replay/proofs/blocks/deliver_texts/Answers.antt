use Rattle.std.proofs.Common.{◌≡◌, Bool, ◌||◌, ◌+◌, ◌++◌, ◌∷◌, [], List, ℕ, take, drop, sym, ap, subst, refl, ◌∙◌}
use Rattle.std.proofs.lemmas.List.{take_more, take-append-drop}
use Rattle.std.proofs.lemmas.Result.{err_from_is_err_and}
use Rattle.office_core_replay.specs.steps.BlockSteps.{DeliversTextsFront}
use Rattle.office_core.specs.Preserves.{StoreRefused}
use Rattle.office_core_facts.specs.State.{state_of}
use Rattle.office_core_replay.proofs.BlockFacts.{texts_none, texts_more, texts_front}
use Rattle.office_core.proofs.CarryFacts.{carries_none, carries_twice, holds_first, holds_next, refused_first, refused_next}
use Rattle.office_core_replay.proofs.blocks.deliver_texts.Goals as goal

pub texts-init : goal.texts-init
texts-init g c =
    let s = c.args.office.now in
    record {
      carries = carries_none g.K.Keeper s;
      so_far = λ h. texts_none (state_of g.K.Keeper s) (g.W.Sink.written c.args.writer.now) (StoreRefused g.K.Keeper s s);
      failures = refl;
    }

pub texts-preserved : goal.texts-preserved
texts-preserved g c =
    let keeper = g.K.Keeper in
    let written = g.W.Sink.written in
    let s0 = c.args.office.now in
    let s1 = c.texts.office in
    let s2 = c.deliver_one.new.office in
    let l = c.texts.invariant in
    let step = c.in_ok-mark.ensures in
    let texts : List (List ℕ) = c.args.texts.now in
    let i = c.texts.text-index in
    let text : List ℕ = c.as_slice.result.now in
    let more : take (i + 1) texts ≡ take i texts ++ text ∷ [] =
    take_more texts i c.text-item.result c.texts-test.true ∙ ap (λ (t : List ℕ). take i texts ++ t ∷ []) (sym c.text-item.is ∙ sym c.as_slice.ensures) in
    record {
      carries = carries_twice keeper s0 s1 s2 l.carries step.carries;
      so_far = λ h. rw more (texts_more (StoreRefused keeper s0 s1) (StoreRefused keeper s1 s2) (StoreRefused keeper s0 s2) c.texts.lost c.either-lost.result (state_of keeper s0) (state_of keeper s1) (state_of keeper s2) (take i texts) text
          (written c.args.writer.now) (written c.texts.writer) (written c.deliver_one.new.writer) c.in_ok-mark.mark
          (l.so_far (holds_first keeper s0 s1 s2 step.carries h)) (refused_first keeper s0 s1 s2 step.carries)
          (step.ok (holds_next keeper s0 s1 s2 l.carries step.carries h)) (refused_next keeper s0 s1 s2 l.carries)
          (c.either-lost.ensures ∙ ap (λ (b : Bool). c.texts.lost || b) c.is_lost.ensures));
      failures = step.failures.clean ∙ l.failures;
    }

pub returns-in_err-mark-clause-front : goal.returns-in_err-mark-clause-front
returns-in_err-mark-clause-front g c =
    let p = err_from_is_err_and c.from_residual.result c.from_residual.ensures.1 in
    let keeper = g.K.Keeper in
    let written = g.W.Sink.written in
    let s0 = c.args.office.now in
    let s1 = c.texts.office in
    let s2 = c.deliver_one.new.office in
    let l = c.texts.invariant in
    let step = c.in_err-mark.ensures in
    let texts : List (List ℕ) = c.args.texts.now in
    let i = c.texts.text-index in
    let text : List ℕ = c.as_slice.result.now in
    let more : take (i + 1) texts ≡ take i texts ++ text ∷ [] =
    take_more texts i c.text-item.result c.texts-test.true ∙ ap (λ (t : List ℕ). take i texts ++ t ∷ []) (sym c.text-item.is ∙ sym c.as_slice.ensures) in
    let all : (take i texts ++ text ∷ []) ++ drop (i + 1) texts ≡ texts = ap (λ (ts : List (List ℕ)). ts ++ drop (i + 1) texts) (sym more) ∙ take-append-drop (i + 1) texts in
    λ h. rw p.1 (subst (λ (ts : List (List ℕ)). DeliversTextsFront (state_of keeper s0) (state_of keeper s2) ts (written c.args.writer.now) (written c.deliver_one.new.writer) (StoreRefused keeper s0 s2)) all
    (texts_front (StoreRefused keeper s0 s1) (StoreRefused keeper s1 s2) (StoreRefused keeper s0 s2) c.texts.lost (state_of keeper s0) (state_of keeper s1) (state_of keeper s2) (take i texts) (drop (i + 1) texts) text
    (written c.args.writer.now) (written c.texts.writer) (written c.deliver_one.new.writer) (l.so_far (holds_first keeper s0 s1 s2 step.carries h)) (refused_first keeper s0 s1 s2 step.carries)
    (step.front (holds_next keeper s0 s1 s2 l.carries step.carries h)) (refused_next keeper s0 s1 s2 l.carries)))
