use Rattle.office_cli_words.proofs.command.compare_command.Goals as goal

pub returns : goal.returns
returns c = c.with_arg.ensures _ _ c.place-3.ensures.rule (c.with_arg-two.ensures _ _ c.place-2.ensures.rule (c.with_arg-one.ensures _ _ c.place.ensures.rule c.named-bare.ensures))
