use Rattle.std.proofs.Common.{arith, refl, ◌∙◌, sym, ap, subst, ◌<◌, length, List, fold, ◌≤◌}
use Rattle.std.specs.Option.{option_copied}
use Rattle.testing_rules_model.specs.Boxed.{unboxed}
use Rattle.testing_rules_live.specs.steps.LiveSources.{sources_of, AreSlots}
use Rattle.testing_rules_live.proofs.LiveSlots.{sources-put}
use Rattle.testing_rules_model.specs.Moves.{source_in, put_source, as_source}
use Rattle.testing_rules_model.specs.declared.facts.UploadIn.{UploadIn}
use Rattle.testing_rules_model.specs.declared.suite.SourceIn.{SourceIn}
use Rattle.testing_rules_items.proofs.Grouping.{group-none, put-more}
use Rattle.testing_rules_live.proofs.live_sources.move_sources.Goals as goal
use Rattle.testing_rules_live.proofs.live_sources.move_sources.Goals.{in-Some+in_ok-as_source+in_ok-source+in_ok-guess, in_default}

pub loop-name-preserved : goal.loop-name-preserved
loop-name-preserved c =
    let group = c.args.group.now in
    let us = unboxed c.args.unstable.now in
    let i = c.loop-name.name-index in
    let d = c.name-item.result in
    let below : i < length group = omega arith in
    let base = sources_of c.args.slots.now.items in
    let put : List SourceIn → UploadIn → List SourceIn = λ xs u. put_source (as_source u) xs in
    let found = ap (source_in us) (sym c.name-item.is) ∙ ap (source_in us) (sym c.as_str.ensures) ∙ sym c.source_near.ensures in
    elim c.match-source_near.branch [
      | in-Some+in_ok-as_source+in_ok-source+in_ok-guess w ↦
          let u = w.in-Some.upload.now in
          let is = found ∙ ap option_copied w.in-Some.is in
          let more = put-more (source_in us) group i d below put base u is in
          let x = w.in_ok-source.source.value in
          let moved = ap sources_of w.in_ok-guess.ensures.ok ∙ sources-put _ x c.loop-name.slots.items refl c.loop-name.invariant.ordered in
          record {
            so_far = ap (λ v. sources_of v.items) w.slots-is ∙ moved
                ∙ ap (λ y. put_source y (sources_of c.loop-name.slots.items)) (w.in_ok-source.ensures.ok ∙ w.in_ok-as_source.ensures) ∙ ap (λ xs. put xs u) c.loop-name.invariant.so_far ∙ sym more;
            ordered = subst (λ v. AreSlots v.items) (sym w.slots-is) w.put_slot.ensures.ordered;
          }
      | in_default w ↦
          let none = sym (group-none (source_in us) group i d below (found ∙ ap option_copied w.in_default.is)) in
          record {
            so_far = ap (λ v. sources_of v.items) w.slots-is ∙ c.loop-name.invariant.so_far ∙ ap (fold put base) none;
            ordered = subst (λ v. AreSlots v.items) (sym w.slots-is) c.loop-name.invariant.ordered;
          }
    ]
