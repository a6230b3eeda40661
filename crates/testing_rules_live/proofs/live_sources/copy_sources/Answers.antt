use Rattle.std.proofs.Common.{sym, ap, ◌∙◌, ◌++◌, ◌∷◌, [], List}
use Rattle.std.specs.Option.{option_copied}
use Rattle.testing_rules_live.specs.steps.LiveSources.{source_of}
use Rattle.testing_rules_items.proofs.Grouping.{group-some, group-none}
use Rattle.testing_rules_model.specs.declared.suite.SourceIn.{SourceIn}
use Rattle.testing_rules_live.proofs.live_sources.copy_sources.Goals as goal
use Rattle.testing_rules_live.proofs.live_sources.copy_sources.Goals.{in-Some+in_ok-copy+in_ok-push, in_default}

pub loop-slot-preserved : goal.loop-slot-preserved
loop-slot-preserved c =
    let slots = c.args.slots.now in
    let i = c.loop-slot.slot-index in
    let d = c.slot-item.result in
    let read = ap source_of (sym c.slot-item.is) ∙ sym c.source.ensures in
    elim c.match-source.branch [
      | in-Some+in_ok-copy+in_ok-push w ↦
          let some = group-some source_of slots i d c.loop-slot-test.true w.in-Some.source.now (read ∙ ap option_copied w.in-Some.is) in
          ap (λ v. v.items) w.sources-is ∙ w.in_ok-push.ensures.items ∙ ap (λ (x : SourceIn). c.loop-slot.sources.items ++ x ∷ []) w.in_ok-copy.ensures
          ∙ ap (λ (xs : List SourceIn). xs ++ w.in-Some.source.now ∷ []) c.loop-slot.invariant ∙ sym some
      | in_default w ↦
          let none = group-none source_of slots i d c.loop-slot-test.true (read ∙ ap option_copied w.in_default.is) in
          ap (λ v. v.items) w.sources-is ∙ c.loop-slot.invariant ∙ sym none
    ]
