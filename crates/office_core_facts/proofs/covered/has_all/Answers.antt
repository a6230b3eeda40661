use Rattle.std.proofs.Common.{rules}
use Rattle.office_core_facts.proofs.covered.has_all.Goals as goal

pub returns : goal.returns
returns c = search rules
