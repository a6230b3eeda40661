use Rattle.std.specs.Prelude.{⊤}
use Rattle.office_core_replay.proofs.BlockFacts.{one_way}
use Rattle.office_core_replay.proofs.replay_laws.blocks_are_no_other.Goals as goal

pub returns : goal.returns
returns c = λ s a b texts w v x p q. one_way ⊤ ⊤ s a b texts w v x p q
