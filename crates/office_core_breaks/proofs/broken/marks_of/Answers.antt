use Rattle.std.proofs.Common.{arith, ◌≡◌, ◌≤◌, ◌∙◌, ap, length, map}
use Rattle.std.proofs.lemmas.List.{take_all}
use Rattle.std.proofs.lemmas.Result.{IfOk-weaker}
use Rattle.testing_install.specs.Installable.{are_installable}
use Rattle.testing_install.specs.Rows.{binaries}
use Rattle.testing_rules_model.specs.JudgedRows.{lent}
use Rattle.office_core_breaks.proofs.broken.marks_of.Goals as goal

pub returns : goal.returns
returns c =
    let rows = c.args.rows.now in
    let over : length rows ≤ c.loop-row.row-index = omega arith in
    let all : binaries c.loop-row.packages.items ≡ map (λ r. r.binary) (lent rows) = rw (take_all c.loop-row.row-index rows over) at c.loop-row.invariant in
    IfOk-weaker c.installable.result _ _
    (λ marks is. is ∙ ap (λ xs. are_installable (binaries xs)) c.deref-2.ensures.value ∙ ap are_installable all)
    c.installable.ensures.computed
