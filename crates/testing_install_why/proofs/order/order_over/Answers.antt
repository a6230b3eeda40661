use Rattle.std.proofs.Common.{sym, ◌∙◌, ap, length}
use Rattle.testing_install.specs.Closed.{marked}
use Rattle.testing_install_why.proofs.Finding.{all_refuted}
use Rattle.testing_install_why.proofs.Reading.{are_steps}
use Rattle.testing_install_why.proofs.Taking.{order_none}
use Rattle.testing_install_why.specs.steps.Taking.{IsOrder}
use Rattle.testing_install_why.proofs.order.order_over.Goals as goal

-- the order at the end
order : (c : goal.After-drop-left-2) → IsOrder c.args.suite.now.rows (marked c.args.suite.now.there) c.take_out.new.left c.take_out.new.steps.items
order c =
    c.in_ok-take_out.ensures.order (marked c.args.suite.now.there) (rw (c.deref_mut.ensures.value ∙ c.in_ok-left.ensures.items ∙ c.there.ensures.is, c.new-steps.ensures.items) (order_none c.args.suite.now.rows c.args.suite.now.there (ap length (sym c.there.ensures.is) ∙ c.there.ensures.long)))

pub returns-clause-groundless : goal.returns-clause-groundless
returns-clause-groundless c = (order c).groundless

pub returns-clause-complete : goal.returns-clause-complete
returns-clause-complete c =
    all_refuted c.args.suite.now.rows c.args.suite.now.there c.take_out.new.left c.take_out.new.steps.items c.args.places.now (ap length (sym c.there.ensures.is) ∙ c.there.ensures.long) (order c) c.in_ok-take_out.ensures.held c.requires

pub returns-clause-steps : goal.returns-clause-steps
returns-clause-steps c = are_steps c.args.suite.now.rows (marked c.args.suite.now.there) c.take_out.new.steps.items (order c).groundless
