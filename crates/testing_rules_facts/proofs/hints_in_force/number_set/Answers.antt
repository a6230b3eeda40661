use Rattle.std.proofs.Common.{Ok}
use Rattle.std.specs.HashSet.{IsFromIterResult}
use Rattle.std.specs.Prelude.{ℕ, ◌==◌}
use Rattle.std.proofs.lemmas.Iterator.{YieldsList-from_slice}
use Rattle.std.proofs.lemmas.Iterator.Adapters.{fact_from_collect}
use Rattle.std.proofs.lemmas.Iterator.Consumers.{YieldsList-from_copied}
use Rattle.testing_rules_facts.proofs.hints_in_force.number_set.Goals as goal

pub returns : goal.returns
returns c = λ number.
    let made = fact_from_collect {E = ℕ} (λ xs set. IsFromIterResult (λ (a b : ℕ). a == b) xs set) (Ok c.in_ok-set.set) c.in_ok-set.ensures.ran
    (YieldsList-from_copied (YieldsList-from_slice c.args.numbers.now cc)) in
    made.0 number
