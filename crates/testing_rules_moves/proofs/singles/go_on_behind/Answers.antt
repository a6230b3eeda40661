use Rattle.std.proofs.Common.{arith, ◌∙◌, ap, ◌<◌, length, drop}
use Rattle.std.proofs.lemmas.Grind.{common_steps}
use Rattle.testing_rules_moves.proofs.Circle.{turned}
use Rattle.testing_rules_moves.proofs.singles.go_on_behind.Goals as goal

pub returns-clause-behind : goal.returns-clause-behind
returns-clause-behind c =
    let items = c.args.circle.now.items in
    let i = c.args.place in
    let below : i < length items = omega arith in
    c.pop_front.ensures.rest ∙ ap (drop 1) c.rotate_left.ensures.items ∙ turned items i below

pub returns-clause-fewer : goal.returns-clause-fewer
returns-clause-fewer c = grind (arith, common_steps)
