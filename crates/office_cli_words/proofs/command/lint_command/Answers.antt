use Rattle.office_cli_words.proofs.command.lint_command.Goals as goal

pub returns : goal.returns
returns c = c.with_arg.ensures _ _ c.conf_option.ensures.rule c.named-bare.ensures
