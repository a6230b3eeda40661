use Rattle.std.proofs.Common.{◌≡◌, ◌∙◌, true, List, sym, ap, subst}
use Rattle.std.specs.Prelude.{IfSome}
use Rattle.testing_rules_items.specs.Words.{Text}
use Rattle.testing_rules_model.specs.Boxed.{unboxed}
use Rattle.testing_rules_model.specs.JudgedRows.{lent}
use Rattle.testing_rules_refusals.specs.steps.Standing.{AreToldBlocks, begins_with}
use Rattle.testing_rules_refusals.proofs.Blocks.{shows_stuck}
use Rattle.testing_rules_refusals.proofs.stuck.text_over.Goals as goal

pub returns : goal.returns
returns c =
    let a = c.args in
    let g = a.input.now in
    let sources = unboxed g.unstable.sources.now in
    let unstable = lent g.unstable.rows.now in
    let told = c.in-Some.told in
    let are = subst (λ o. IfSome o (λ told. AreToldBlocks g.archs.now sources unstable g.excuses.now g.testing.now told.names.items told.text)) c.in-Some.is c.in_ok-told.ensures in
    let first : begins_with told.names.items a.source.now ≡ true =
    ap (λ (ns : List Text). begins_with ns a.source.now) (sym c.deref-2.ensures.value) ∙ sym c.is_first.ensures ∙ c.if-not-is_first.false in
    shows_stuck g.archs.now sources unstable g.excuses.now g.testing.now a.source.now told.text told.names.items first are
