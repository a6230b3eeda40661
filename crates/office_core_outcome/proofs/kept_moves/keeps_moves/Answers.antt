use Rattle.std.proofs.Common.{◌∙◌, ap, sym}
use Rattle.testing_rules_reports.specs.steps.LentLines.{lent_lines}
use Rattle.office_core_outcome.proofs.KeepFacts.{kept_by}
use Rattle.office_core_outcome.proofs.kept_moves.keeps_moves.Goals as goal

pub returns : goal.returns
returns c = λ all.
    kept_by c.args.one.now c.args.other.now c.in_ok-set.set.keys (lent_lines c.deref-2.result.now) (lent_lines c.deref.result.now)
    (ap lent_lines c.deref-2.ensures.value ∙ c.in_ok-before.ensures) (ap lent_lines c.deref.ensures.value ∙ c.in_ok-after.ensures) c.in_ok-set.ensures (sym c.has_all.ensures ∙ all)
