use Rattle.std.proofs.Common.{◌&&◌, true, sym, ◌∙◌}
use Rattle.testing_rules_model.specs.JudgedRows.{row_of}
use Rattle.testing_rules_model.specs.Moves.{is_watched_on, was_installable}
use Rattle.testing_rules_suites.specs.steps.JudgedRows.{answers}
use Rattle.testing_rules_refusals.proofs.Failings.{second_of_both}
use Rattle.testing_rules_refusals.proofs.stuck.worked.Goals as goal

pub returns : goal.returns
returns c = λ h. second_of_both (is_watched_on c.args.arch (row_of c.args.row.now) && true) (was_installable (answers c.args.before.now) (row_of c.args.row.now)) (sym c.fails_on.ensures ∙ h)
