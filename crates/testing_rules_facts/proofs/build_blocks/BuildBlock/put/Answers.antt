use Rattle.std.proofs.Common.{sym, subst}
use Rattle.testing_rules_facts.specs.steps.Blocks.{HasRows}
use Rattle.testing_rules_facts.proofs.Blocking.{some-with}
use Rattle.testing_rules_facts.proofs.build_blocks.BuildBlock.put.Goals as goal

pub returns-then-len-lt-FULL-clause-lower : goal.returns-then-len-lt-FULL-clause-lower
returns-then-len-lt-FULL-clause-lower c = subst HasRows (sym c.put_build-shifted.ensures.items) (some-with c.args.build c.self.inside.rows.items)
