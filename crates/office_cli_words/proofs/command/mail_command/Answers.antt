use Rattle.office_cli_words.proofs.command.mail_command.Goals as goal

pub returns : goal.returns
returns c = c.with_arg.ensures _ _ c.list_option.ensures.rule c.looking_command-looking.ensures
