use Rattle.std.proofs.Common.{arith, ◌∙◌, sym, ◌-◌, ◌<◌, length}
use Rattle.std.specs.declared.cmp.Ordering.TheVariants.{Less}
use Rattle.testing_rules_model.specs.Unstable.{pair_order, pair_of}
use Rattle.testing_rules_model.specs.declared.facts.BuildIn.{BuildIn}
use Rattle.testing_rules_facts.proofs.Guesses.{between, compares}
use Rattle.testing_rules_facts.proofs.taken.place_below.Goals as goal

pub returns-then-place-eq0-clause-found : goal.returns-then-place-eq0-clause-found
returns-then-place-eq0-clause-found c =
    let ord = λ (b : BuildIn). pair_order (pair_of b) (c.args.arch.now, c.args.name.now) in
    between ord c.args.rows.now c.args.place (omega (arith, c.if-place-eq0.true)) (λ some. absurd (omega (arith, some, c.if-place-eq0.true))) (λ here. c.requires.above)

pub returns-in-Less-clause-found : goal.returns-in-Less-clause-found
returns-in-Less-clause-found c =
    let xs = c.args.rows.now in
    let i = c.args.place in
    let ord = λ (b : BuildIn). pair_order (pair_of b) (c.args.arch.now, c.args.name.now) in
    let within : i - 1 < length xs = omega (arith, c.requires.within) in
    let low = compares ord xs (i - 1) c.index-rows-place.result Less within c.index-rows-place.is (sym c.order_pair.ensures ∙ c.in-Less.is) in
    between ord xs i (omega (arith, c.requires.within)) (λ some. low) (λ here. c.requires.above)
