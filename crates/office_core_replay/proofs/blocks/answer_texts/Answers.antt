use Rattle.office_core_facts.specs.State.{state_of}
use Rattle.office_core_replay.proofs.DeliverFacts.{keeps_none}
use Rattle.office_core_replay.proofs.blocks.answer_texts.Goals as goal

pub returns-in_err-write_replies-clause-settles : goal.returns-in_err-write_replies-clause-settles
returns-in_err-write_replies-clause-settles g c = λ h. keeps_none (state_of g.K.Keeper c.args.office.now)
