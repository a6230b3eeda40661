use Rattle.testing_rules_suites.proofs.Suites.{over_of}
use Rattle.testing_rules_suites.proofs.carried_suites.CarriedSuites.first_lost.Goals as goal

pub lost_anywhere-requires-clause-over : goal.lost_anywhere-requires-clause-over
lost_anywhere-requires-clause-over c = over_of c.self.inside.pool c.self.inside.stands.items c.self.inside.suites.items c.self.invariant.each
