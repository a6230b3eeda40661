use Rattle.std.proofs.Common.{codes, refl}
use Rattle.office_cli_words.specs.steps.ProgramSteps.{looking, mail, of_nine}
use Rattle.office_cli_words.proofs.command.command_of_nine.Goals as goal

pub returns : goal.returns
unfolding of_nine
returns c = c.with_command.ensures _ (looking (codes "check")) refl (c.with_command-eight.ensures _ (looking (codes "export")) refl (c.with_command-seven.ensures _ mail refl (c.with_command-six.ensures _ (looking (codes "runs")) refl c.command_of_five.ensures c.looking_command-runs.ensures) c.mail_command.ensures) c.looking_command-export.ensures) c.looking_command-check.ensures
