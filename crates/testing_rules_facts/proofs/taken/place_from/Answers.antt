use Rattle.std.proofs.Common.{arith, ◌∙◌, sym}
use Rattle.std.specs.declared.cmp.Ordering.TheVariants.{Greater}
use Rattle.testing_rules_model.specs.Unstable.{pair_order, pair_of}
use Rattle.testing_rules_model.specs.declared.facts.BuildIn.{BuildIn}
use Rattle.testing_rules_facts.proofs.Guesses.{between, compares}
use Rattle.testing_rules_facts.proofs.taken.place_from.Goals as goal

pub returns-then-guess-place-clause-found : goal.returns-then-guess-place-clause-found
returns-then-guess-place-clause-found c =
    let xs = c.args.rows.now in
    let i = c.tries.place in
    let ord = λ (b : BuildIn). pair_order (pair_of b) (c.args.arch.now, c.args.name.now) in
    let high = compares ord xs i c.index-rows-place.result Greater c.tries-test.true c.index-rows-place.is (sym c.order_pair.ensures ∙ c.in-Greater.is) in
    between ord xs i (omega (arith, c.tries-test.true)) (λ some. c.tries.invariant.below c.if-guess-place.true) (λ here. high)

pub returns-then-place-rows-clause-found : goal.returns-then-place-rows-clause-found
returns-then-place-rows-clause-found c =
    let xs = c.args.rows.now in
    let i = c.tries.place in
    let ord = λ (b : BuildIn). pair_order (pair_of b) (c.args.arch.now, c.args.name.now) in
    between ord xs i (omega (arith, c.if-place-rows.true)) (λ some. c.tries.invariant.below c.if-guess-place-2.true)
    (λ here. absurd (omega (arith, here, c.if-place-rows.true)))
