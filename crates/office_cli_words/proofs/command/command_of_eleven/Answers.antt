use Rattle.std.proofs.Common.{refl}
use Rattle.office_cli_words.specs.steps.ProgramSteps.{of_eleven, tries, why}
use Rattle.office_cli_words.proofs.command.command_of_eleven.Goals as goal

pub returns : goal.returns
unfolding of_eleven
returns c = c.with_command.ensures _ tries refl (c.with_command-ten.ensures _ why refl c.command_of_nine.ensures c.why_command.ensures) c.try_command.ensures
