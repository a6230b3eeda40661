use Rattle.std.proofs.Common.{◌∙◌, sym, ap}
use Rattle.deb_control.specs.declared.binary.Binary.{Binary}
use Rattle.testing_rules_model.specs.JudgedRows.{lent, row_of}
use Rattle.testing_rules_reports.specs.steps.LentLines.{has_line}
use Rattle.testing_rules_refusals.proofs.Leaving.{unnamed}
use Rattle.testing_rules_refusals.proofs.living.is_replaced.Goals as goal

pub returns-else-is_in_set : goal.returns-else-is_in_set
returns-else-is_in_set c =
    let a = c.args.arrival.now in
    let r = row_of c.args.row.now in
    let keys = a.packages.now.keys in
    let asked = ap (λ (q : Binary). has_line keys q.name) (sym c.deref.ensures) ∙ ap (has_line keys) (sym c.as_str.ensures) in
    c.if-is_in_set.false ∙ unnamed r (lent a.rows.now) (sym (c.requires r.binary.name) ∙ asked ∙ sym c.is_in_set.ensures ∙ c.if-is_in_set.false)
