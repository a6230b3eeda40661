use Rattle.testing_rules_laws.proofs.Said.{more_tell}
use Rattle.testing_rules_laws.proofs.kept_laws.more_tell.Goals as goal

pub returns : goal.returns
returns c = λ f s more within h. more_tell s more within f h
