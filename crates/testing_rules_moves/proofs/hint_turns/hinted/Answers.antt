use Rattle.std.proofs.Common.{◌≡◌, ◌∙◌, ap, subst, List}
use Rattle.std.specs.Prelude.{IfOk}
use Rattle.testing_rules_model.specs.declared.facts.HintIn.{HintIn}
use Rattle.testing_rules_model.specs.declared.suite.RowIn.{RowIn}
use Rattle.testing_rules_model.specs.JudgedRows.{lent}
use Rattle.testing_rules_model.specs.Unstable.{built_rows}
use Rattle.testing_rules_moves.specs.steps.Turns.{after_groups, after_removals}
use Rattle.testing_rules_moves.proofs.hint_turns.hinted.Goals as goal

pub returns : goal.returns
returns c =
    let a = c.args in
    let f = a.facts.now in
    let rows : lent c.deref.result.now ≡ built_rows a.archs.now f.rows = ap lent c.deref.ensures.value ∙ c.in_ok-rows.ensures.rows ∙ ap (built_rows a.archs.now) c.rows.ensures.rows in
    let over = λ (rs : List RowIn) (hints : List HintIn). IfOk c.groups_over.result (λ turn. turn ≡ after_groups a.archs.now f.sources rs a.excuses.now hints f.unhints (after_removals a.archs.now f.hints f.unhints a.testing.now)) in
    subst (λ (rs : List RowIn). over rs f.hints) rows (subst (λ (hints : List HintIn). over (lent c.deref.result.now) hints) c.hints.ensures c.groups_over.ensures)
