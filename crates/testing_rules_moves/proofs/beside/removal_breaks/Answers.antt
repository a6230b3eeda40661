use Rattle.std.proofs.Common.{◌∙◌, ap}
use Rattle.testing_rules_moves.specs.steps.Runs.{broken_by_removal}
use Rattle.testing_rules_moves.proofs.beside.removal_breaks.Goals as goal

pub returns-clause-offender : goal.returns-clause-offender
returns-clause-offender c = c.in_ok-offender.ensures.offender ∙ ap (broken_by_removal c.args.name.now) c.in_ok-live.ensures
