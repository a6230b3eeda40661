use Rattle.std.proofs.Common.{◌∙◌, ap}
use Rattle.testing_rules_moves.specs.steps.Runs.{broken_by_move}
use Rattle.testing_rules_moves.proofs.beside.group_breaks.Goals as goal

pub returns-clause-offender : goal.returns-clause-offender
returns-clause-offender c = c.in_ok-offender.ensures.offender ∙ ap (broken_by_move c.args.group.now) c.in_ok-live.ensures
