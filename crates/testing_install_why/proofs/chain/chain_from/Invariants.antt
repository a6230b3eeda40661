use Rattle.testing_install_why.proofs.Reading.{IsFollowed}
use Rattle.testing_install_why.proofs.chain.chain_from.Given as goal

abbrev pub invariant-loop-next : goal.invariant-loop-next
invariant-loop-next l = IsFollowed l.suite.rows l.order l.first l.last l.rest.items

abbrev pub decreases-loop-next : goal.decreases-loop-next
decreases-loop-next l = l.last
