use Rattle.std.proofs.Common.{◌≡◌, List, Option, Some, None, IfOk, sym, ap, subst, ◌∙◌}
use Rattle.std.specs.Option.{option_copied}
use Rattle.testing_rules_model.specs.declared.excuse.Excuse.{Excuse}
use Rattle.testing_rules_model.specs.declared.facts.UploadIn.{UploadIn}
use Rattle.testing_rules_model.specs.Moves.{source_in}
use Rattle.testing_rules_excuses.specs.States.{excuse_of}
use Rattle.office_core_why.specs.steps.Telling.{unstable_of}
use Rattle.office_core_why.specs.Why.{AreOrigins}
use Rattle.office_core_why.proofs.told.origins_in.Goals as goal

pub returns-in-Some : goal.returns-in-Some
returns-in-Some c =
    let a = c.args in
    let input = a.input.now in
    let u : UploadIn = c.in-Some.upload.now in
    let found : source_in input.facts.now.sources a.source.now ≡ Some u =
    ap (λ (us : List UploadIn). source_in us a.source.now) (sym c.sources.ensures.sources) ∙ sym c.source_in.ensures ∙ ap option_copied c.in-Some.is in
    subst (λ (o : Option UploadIn). IfOk c.origins_of.result (λ text. AreOrigins input.senders.now input.archs.now (unstable_of input.archs.now input.facts.now) a.testing.now (excuse_of a.excuses.now a.source.now) o text)) (sym found)
    (subst (λ (o : Option Excuse). IfOk c.origins_of.result (λ text. AreOrigins input.senders.now input.archs.now (unstable_of input.archs.now input.facts.now) a.testing.now o (Some u) text)) c.excuse_of-excuse.ensures c.origins_of.ensures)

pub returns-in-None : goal.returns-in-None
returns-in-None c =
    let a = c.args in
    let input = a.input.now in
    let none : source_in input.facts.now.sources a.source.now ≡ None =
    ap (λ (us : List UploadIn). source_in us a.source.now) (sym c.sources.ensures.sources) ∙ sym c.source_in.ensures ∙ ap option_copied c.in-None.is in
    subst (λ (o : Option UploadIn). AreOrigins input.senders.now input.archs.now (unstable_of input.archs.now input.facts.now) a.testing.now (excuse_of a.excuses.now a.source.now) o c.no_lines.result) (sym none) c.no_lines.ensures
