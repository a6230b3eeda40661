use Rattle.testing_rules_suites.proofs.StandingFacts.{raised_to}
use Rattle.testing_rules_suites.proofs.lent_suites.raise_more.Goals as goal

pub returns : goal.returns
returns c = raised_to c.args.flags.now.items c.resize.new.self.items c.args.count _ c.in_ok-resize.ensures.items c.args.flags.now.ok.0 c.requires
