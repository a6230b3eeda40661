use Rattle.std.proofs.Common.{refl}
use Rattle.office_cli_words.specs.steps.ProgramSteps.{of_five, report, waiting}
use Rattle.office_cli_words.proofs.command.command_of_five.Goals as goal

pub returns : goal.returns
unfolding of_five
returns c = c.with_command.ensures _ report refl (c.with_command-four.ensures _ waiting refl c.command_of_three.ensures c.waiting_command.ensures) c.report_command.ensures
