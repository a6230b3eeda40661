use Rattle.std.proofs.Common.{◌≡◌, false, sym, ap, ◌∙◌}
use Rattle.std.specs.Str.{bytes_eq}
use Rattle.testing_rules_items.specs.Words.{Text}
use Rattle.office_core_facts.proofs.AgainFacts.{name_later}
use Rattle.office_core_facts.proofs.choice.has_name.Goals as goal

pub names-preserved : goal.names-preserved
names-preserved c = λ h.
    let name : Text = c.args.name.now in
    let other : Text = c.other-item.result in
    let apart : bytes_eq other name ≡ false = ap (λ (text : Text). bytes_eq text name) (sym c.as_str.ensures) ∙ sym c.eq.ensures ∙ c.if-eq.false in
    name_later c.args.names.now c.names.other-index other name c.names-test.true c.other-item.is apart (c.names.invariant h)
