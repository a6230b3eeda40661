use Rattle.std.proofs.Common.{refl, ap, ◌∙◌, take}
use Rattle.testing_rules_live.specs.steps.LiveSources.{sources_of}
use Rattle.testing_rules_live.proofs.LiveSlots.{sources-put, sources-next}
use Rattle.testing_rules_model.specs.Moves.{put_source}
use Rattle.testing_rules_live.proofs.live_sources.lend_sources.Goals as goal

pub loop-source-preserved : goal.loop-source-preserved
loop-source-preserved c =
    let testing = c.args.testing.now in
    let i = c.loop-source.source-index in
    let x = c.source-item.result in
    let next = ap (λ y. put_source y (take i testing)) c.source-item.is ∙ sources-next testing i x c.requires.order c.loop-source-test.true in
    record {
      so_far = ap sources_of c.in_ok-guess.ensures.ok ∙ sources-put _ x c.loop-source.slots.items refl c.loop-source.invariant.ordered ∙ ap (put_source x) c.loop-source.invariant.so_far ∙ next;
      ordered = c.put_slot.ensures.ordered;
    }
