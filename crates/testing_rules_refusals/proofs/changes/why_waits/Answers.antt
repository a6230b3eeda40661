use Rattle.std.proofs.Common.{◌≡◌, List, None, IfNone, subst}
use Rattle.std.specs.Prelude.{IfOk, IfSome}
use Rattle.testing_rules_items.specs.Words.{Text}
use Rattle.testing_rules_model.specs.Moves.{move_group, offender_of}
use Rattle.testing_rules_model.specs.Unstable.{built_rows}
use Rattle.testing_rules_refusals.specs.ToldChange.{IsToldMove}
use Rattle.testing_rules_refusals.proofs.changes.why_waits.Goals as goal

pub returns-clause-some : goal.returns-clause-some
returns-clause-some c =
    let a = c.args in
    let rows = built_rows a.archs.now a.facts.now.rows in
    subst (λ (group : List Text). IfOk c.group_refusal.result (λ told. IfSome told (λ text. IsToldMove a.archs.now a.facts.now.sources rows a.excuses.now a.testing.now group text)))
    c.from_ref-group.ensures.value c.group_refusal.ensures.some

pub returns-clause-none : goal.returns-clause-none
returns-clause-none c =
    let a = c.args in
    let t = a.testing.now in
    let rows = built_rows a.archs.now a.facts.now.rows in
    subst (λ (group : List Text). IfOk c.group_refusal.result (λ told. IfNone told (offender_of a.archs.now t.rows (move_group a.facts.now.sources rows group t).rows group ≡ None)))
    c.from_ref-group.ensures.value c.group_refusal.ensures.none
