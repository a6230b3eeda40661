use Rattle.std.specs.List.{AllWithin}
use Rattle.testing_rules_live.proofs.Unmet.{IsMissed}
use Rattle.testing_rules_live.proofs.lack.is_met.Given as goal

-- those so far are missed
abbrev pub invariant-loop-alternative : goal.invariant-loop-alternative
invariant-loop-alternative l = AllWithin (IsMissed l.arch l.suites.rows l.suites.stands l.clause) l.clause 0 l.alternative-index
