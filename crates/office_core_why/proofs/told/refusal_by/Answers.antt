use Rattle.std.proofs.Common.{◌≡◌, Bool, true, false, IfOk, sym, subst, ◌∙◌}
use Rattle.testing_rules_excuses.specs.States.{excuse_of}
use Rattle.testing_rules_reports.specs.Sources.{waits_in}
use Rattle.office_core_why.specs.steps.Telling.{unstable_of}
use Rattle.office_core_why.specs.Why.{IsRefusedWhere}
use Rattle.office_core_why.proofs.told.refusal_by.Goals as goal

pub returns-then-waits-clause-told : goal.returns-then-waits-clause-told
returns-then-waits-clause-told c =
    let a = c.args in
    let input = a.input.now in
    let waits : waits_in a.source.now a.update.now ≡ true = sym c.in_ok-waits.ensures ∙ c.if-waits.true in
    subst (λ (b : Bool). IfOk c.refusal_in.result (λ text. IsRefusedWhere b input.archs.now (unstable_of input.archs.now input.facts.now) a.testing.now a.excuses.now (excuse_of a.excuses.now a.source.now) text)) (sym waits) c.refusal_in.ensures.told

pub returns-else-waits-clause-told : goal.returns-else-waits-clause-told
returns-else-waits-clause-told c =
    let a = c.args in
    let input = a.input.now in
    let moves : waits_in a.source.now a.update.now ≡ false = sym c.in_ok-waits.ensures ∙ c.if-waits.false in
    subst (λ (b : Bool). IsRefusedWhere b input.archs.now (unstable_of input.archs.now input.facts.now) a.testing.now a.excuses.now (excuse_of a.excuses.now a.source.now) c.no_lines.result) (sym moves) c.no_lines.ensures
