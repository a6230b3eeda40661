use Rattle.testing_install.proofs.Trying.{tried_noted}
use Rattle.testing_install.proofs.trials.remember.Goals as goal

pub returns-in-Ok : goal.returns-in-Ok
returns-in-Ok c = λ rows there long right was. tried_noted rows there _ _ c.args.leaving.now c.args.coming.now c.in-Ok.next long right c.in-Ok.ensures.leaving c.in-Ok.ensures.coming c.in-Ok.ensures.falling c.in-Ok.ensures.rising
