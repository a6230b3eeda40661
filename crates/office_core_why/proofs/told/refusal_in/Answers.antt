use Rattle.std.proofs.Common.{◌≡◌, Option, Some, None, IfOk, sym, ap, subst, ◌∙◌}
use Rattle.std.specs.Option.{option_copied}
use Rattle.testing_rules_model.specs.declared.excuse.Excuse.{Excuse}
use Rattle.testing_rules_excuses.specs.States.{excuse_of}
use Rattle.office_core_why.specs.steps.Telling.{unstable_of}
use Rattle.office_core_why.specs.Why.{IsRefused}
use Rattle.office_core_why.proofs.told.refusal_in.Goals as goal

pub returns-in-Some-clause-told : goal.returns-in-Some-clause-told
returns-in-Some-clause-told c =
    let a = c.args in
    let found : excuse_of a.excuses.now a.source.now ≡ Some c.in-Some.excuse.now = sym c.excuse_of.ensures ∙ ap option_copied c.in-Some.is in
    subst (λ (o : Option Excuse). IfOk c.refusal_of.result (λ text. IsRefused a.archs.now (unstable_of a.archs.now a.facts.now) a.testing.now a.excuses.now o text)) (sym found) c.refusal_of.ensures.told

pub returns-in-None-clause-told : goal.returns-in-None-clause-told
returns-in-None-clause-told c =
    let a = c.args in
    let none : excuse_of a.excuses.now a.source.now ≡ None = sym c.excuse_of.ensures ∙ ap option_copied c.in-None.is in
    subst (λ (o : Option Excuse). IsRefused a.archs.now (unstable_of a.archs.now a.facts.now) a.testing.now a.excuses.now o c.no_lines.result) (sym none) c.no_lines.ensures
