use Rattle.std.proofs.Common.{◌≡◌, [], Option, Some, IfOk, sym, ap, subst, ◌∙◌}
use Rattle.std.specs.Option.{option_copied, option_map_or}
use Rattle.testing_rules_model.specs.Boxed.{unboxed}
use Rattle.testing_rules_model.specs.declared.facts.UploadIn.{UploadIn}
use Rattle.testing_rules_model.specs.Moves.{source_in}
use Rattle.office_core_breaks.specs.Breaks.{unless_there}
use Rattle.office_core_breaks.proofs.change.source_coming.Goals as goal

pub returns-in-Some : goal.returns-in-Some
returns-in-Some c =
    let a = c.args in
    let found : source_in (unboxed a.sources.now) a.name.now ≡ Some c.in-Some.upload.now =
    ap (source_in (unboxed a.sources.now)) (sym c.as_str.ensures) ∙ sym c.source_in.ensures ∙ ap option_copied c.in-Some.is in
    subst (λ (o : Option UploadIn). IfOk c.unless_there.result (λ group. group.items ≡ option_map_or (unless_there a.testing.now) o [])) (sym found) c.unless_there.ensures
