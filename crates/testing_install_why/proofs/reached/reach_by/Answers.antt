use Rattle.testing_install_why.proofs.Reaching.{shut_for}
use Rattle.testing_install_why.proofs.reached.reach_by.Goals as goal

pub returns-clause-shut : goal.returns-clause-shut
returns-clause-shut c = shut_for _ _ _ c.in_ok-places.places.items (rw c.deref.ensures.value at c.in_ok-reach_among.ensures.shut) c.in_ok-places.ensures.complete
