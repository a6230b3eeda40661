use Rattle.std.proofs.Common.{refl}
use Rattle.office_cli_words.specs.Program.{compare, of_three, replay, serve}
use Rattle.office_cli_words.proofs.command.command_of_three.Goals as goal

pub returns : goal.returns
unfolding of_three
returns c = c.with_command.ensures _ serve refl (c.with_command-two.ensures _ replay refl (c.with_command-one.ensures _ compare refl c.bare_command.ensures c.compare_command.ensures) c.replay_command.ensures) c.serve_command.ensures
