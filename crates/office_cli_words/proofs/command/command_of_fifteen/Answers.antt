use Rattle.std.proofs.Common.{codes, refl}
use Rattle.office_cli_words.specs.steps.ProgramSteps.{lint, looking, of_fifteen, order, propose}
use Rattle.office_cli_words.proofs.command.command_of_fifteen.Goals as goal

pub returns : goal.returns
unfolding of_fifteen
returns c = c.with_command.ensures _ propose refl (c.with_command-fourteen.ensures _ (looking (codes "hints")) refl (c.with_command-thirteen.ensures _ order refl (c.with_command-twelve.ensures _ lint refl c.command_of_eleven.ensures c.lint_command.ensures) c.order_command.ensures) c.looking_command-hints.ensures) c.propose_command.ensures
