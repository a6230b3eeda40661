use Rattle.testing_rules_suites.proofs.OneSort.{same-permuted}
use Rattle.testing_rules_suites.proofs.lent_rows.sort_rows.Goals as goal

pub returns : goal.returns
returns c = same-permuted c.args.rows.now.items c.sort_by.new.self.items c.sort_by.ensures.permutation
