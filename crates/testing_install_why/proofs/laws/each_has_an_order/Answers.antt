use Rattle.testing_install_why.proofs.Finding.{whole_order, each_order}
use Rattle.testing_install_why.proofs.laws.each_has_an_order.Goals as goal

pub returns-clause-whole : goal.returns-clause-whole
returns-clause-whole c = whole_order

pub returns-clause-each : goal.returns-clause-each
returns-clause-each c = each_order
