use Rattle.std.proofs.Common.{rules, of_calls}
use Rattle.std.proofs.lemmas.Fn.{always_returns_same}
use Rattle.testing_rules_model.specs.Unstable.{pair_order, pair_of}
use Rattle.testing_rules_model.specs.declared.facts.BuildIn.{BuildIn}
use Rattle.testing_rules_facts.proofs.taken.place_of_pair.Goals as goal

pub returns-clause-found : goal.returns-clause-found
returns-clause-found c =
    let arch = c.args.arch.now in
    let name = c.args.name.now in
    c.binary_search_by.ensures.position (λ (b : BuildIn). pair_order (pair_of b) (arch, name)) (always_returns_same _ _ _ (λ a r f k. search (rules, of_calls)))
