use Rattle.testing_rules_refusals.proofs.Freeing.{stuck_stays}
use Rattle.testing_rules_refusals.proofs.laws.no_group_frees.Goals as goal

pub returns : goal.returns
returns c = λ archs sources unstable excuses t stuck by_key are. stuck_stays archs sources unstable excuses t by_key stuck are
