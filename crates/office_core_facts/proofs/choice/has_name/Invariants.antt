use Rattle.std.proofs.Common.{drop}
use Rattle.std.specs.Prelude.{Contains}
use Rattle.office_core_facts.proofs.choice.has_name.Given as goal

abbrev pub invariant-names : goal.invariant-names
invariant-names l = Contains l.names l.name → Contains (drop l.other-index l.names) l.name
