use Rattle.std.proofs.Common.{rules}
use Rattle.testing_rules_fact_order.proofs.select.upload_order.Goals as goal

pub returns : goal.returns
returns c = search rules
