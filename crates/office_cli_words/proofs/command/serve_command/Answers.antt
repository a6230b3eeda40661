use Rattle.office_cli_words.proofs.command.serve_command.Goals as goal

pub returns : goal.returns
returns c = c.with_arg.ensures _ _ c.host_option.ensures.rule (c.with_arg-four.ensures _ _ c.connections_option.ensures.rule (c.with_arg-three.ensures _ _ c.db_option.ensures.rule (c.with_arg-two.ensures _ _ c.port_option.ensures.rule (c.with_arg-one.ensures _ _ c.conf_option.ensures.rule c.named-bare.ensures))))
