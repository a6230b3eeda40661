use Rattle.std.proofs.Common.{◌≡◌, ◌++◌, Bool, Option, Some, OnOk, string_bytes, sym, ap, subst}
use Rattle.std.specs.Option.{option_copied}
use Rattle.testing_rules_model.specs.declared.facts.UploadIn.{UploadIn}
use Rattle.office_core_why.specs.Hints.{state_words}
use Rattle.office_core_why.proofs.hints.push_state.Goals as goal

pub returns-then-not-moved : goal.returns-then-not-moved
returns-then-not-moved c =
    let a = c.args in
    let source : UploadIn = c.in-Some.source.now in
    subst (λ (o : Option UploadIn). OnOk c.push_state_of.result (string_bytes c.push_state_of.new.text ≡ string_bytes a.text.now ++ state_words a.removes a.moved a.version.now o)) (sym (ap option_copied c.in-Some.is))
    (subst (λ (moved : Bool). OnOk c.push_state_of.result (string_bytes c.push_state_of.new.text ≡ string_bytes a.text.now ++ state_words a.removes moved a.version.now (Some source))) (sym c.if-not-moved.true)
    (c.push_state_of.ensures a.removes))
