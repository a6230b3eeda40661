use Rattle.office_cli_words.proofs.command.order_command.Goals as goal

pub returns : goal.returns
returns c = c.with_arg.ensures _ _ c.stored_option.ensures.rule (c.with_arg-two.ensures _ _ c.conf_option.ensures.rule (c.with_arg-one.ensures _ _ c.dated_option.ensures.rule c.named-bare.ensures))
