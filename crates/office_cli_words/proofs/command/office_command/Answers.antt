use Rattle.std.proofs.Common.{refl}
use Rattle.office_cli_words.specs.Program.{office}
use Rattle.office_cli_words.specs.steps.ProgramSteps.{breaks, of_eleven, of_fifteen, of_five, of_nine}
use Rattle.office_cli_words.proofs.command.office_command.Goals as goal

pub returns : goal.returns
unfolding office of_fifteen of_eleven of_nine of_five
returns c = c.with_command.ensures _ breaks refl c.command_of_fifteen.ensures c.breaks_command.ensures
