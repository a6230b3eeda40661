use Rattle.office_cli_words.proofs.command.breaks_command.Goals as goal

pub returns : goal.returns
returns c = c.with_arg.ensures _ _ c.run_option.ensures.rule (c.with_arg-three.ensures _ _ c.db_option.ensures.rule (c.with_arg-two.ensures _ _ c.conf_option.ensures.rule (c.with_arg-one.ensures _ _ c.places.ensures.rule c.named-bare.ensures)))
