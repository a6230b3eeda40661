use Rattle.std.proofs.Common.{arith, ◌∙◌, sym, ap, ◌<◌, length, [], ◌∷◌, ◌++◌, map, ◌≤◌}
use Rattle.std.specs.Option.{option_copied}
use Rattle.testing_rules_model.specs.Boxed.{unboxed}
use Rattle.testing_rules_model.specs.Moves.{source_in}
use Rattle.testing_rules_model.specs.steps.LentItems.{as_moved}
use Rattle.testing_rules_items.proofs.Grouping.{group-none, map-more}
use Rattle.std.proofs.lemmas.List.{take_all}
use Rattle.testing_rules_moves.proofs.groups.moved_items.Goals as goal
use Rattle.testing_rules_moves.proofs.groups.moved_items.Goals.{in-Some+in_ok-push_moved, in_default}

pub loop-name-preserved : goal.loop-name-preserved
loop-name-preserved c =
    let group = c.args.group.now in
    let us = unboxed c.args.sources.now in
    let i = c.loop-name.name-index in
    let d = c.name-item.result in
    let below : i < length group = omega arith in
    let found = ap (source_in us) (sym c.name-item.is) ∙ ap (source_in us) (sym c.as_str.ensures) ∙ sym c.source_in.ensures in
    elim c.match-source_in.branch [
      | in-Some+in_ok-push_moved w ↦
          let u = w.in-Some.upload.now in
          let more = map-more (source_in us) group i d below as_moved u (found ∙ ap option_copied w.in-Some.is) in
          ap (λ v. v.items) w.items-is ∙ w.in_ok-push_moved.ensures ∙ ap (λ ms. ms ++ as_moved u ∷ []) c.loop-name.invariant ∙ sym more
      | in_default w ↦
          let none = sym (group-none (source_in us) group i d below (found ∙ ap option_copied w.in_default.is)) in
          ap (λ v. v.items) w.items-is ∙ c.loop-name.invariant ∙ ap (map as_moved) none
    ]

pub returns : goal.returns
returns c =
    let over : length c.args.group.now ≤ c.loop-name.name-index = omega arith in
    rw (take_all c.loop-name.name-index c.args.group.now over) at c.loop-name.invariant
