use Rattle.testing_rules_refusals.specs.Stuck.{NoGroupFrees}
use Rattle.testing_rules_refusals.proofs.Freeing.{stuck_stays}
use Rattle.office_core_laws.proofs.StuckRuns.{office_stays}
use Rattle.office_core_laws.proofs.laws.stuck_stays.Goals as goal

law : NoGroupFrees
law = λ archs sources unstable excuses t stuck by_key are. stuck_stays archs sources unstable excuses t by_key stuck are

pub returns : goal.returns
returns c = λ setup kept k date covers source text is_setup own shown hints easy. office_stays law setup kept k date covers source text is_setup own shown hints easy
