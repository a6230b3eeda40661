use Rattle.std.proofs.Common.{rules, of_calls, Box, Global}
use Rattle.std.proofs.lemmas.Fn.{always_returns_same}
use Rattle.testing_rules_model.specs.Unstable.{pair_order, drop_pair}
use Rattle.testing_rules_model.specs.declared.facts.DropIn.{DropIn}
use Rattle.testing_rules_model.proofs.Unboxed.{unboxed-bound, unboxed-found}
use Rattle.testing_rules_facts.proofs.taken.place_of_drop.Goals as goal

pub returns-clause-bound : goal.returns-clause-bound
returns-clause-bound c = unboxed-bound c.args.drops.now c.binary_search_by.result c.binary_search_by.ensures.bound

pub returns-clause-found : goal.returns-clause-found
returns-clause-found c =
    let arch = c.args.arch.now in
    let name = c.args.name.now in
    unboxed-found (λ (d : DropIn). pair_order (drop_pair d) (arch, name)) c.args.drops.now c.binary_search_by.result c.binary_search_by.ensures.bound
    (c.binary_search_by.ensures.position (λ (b : Box DropIn Global). pair_order (drop_pair b.value) (arch, name)) (always_returns_same _ _ _ (λ a r f k. search (rules, of_calls))))
