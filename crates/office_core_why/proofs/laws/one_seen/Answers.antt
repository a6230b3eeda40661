use Rattle.office_core_facts.proofs.SeenFacts.{seen_once}
use Rattle.office_core_why.proofs.laws.one_seen.Goals as goal

pub returns : goal.returns
returns c = seen_once
