use Rattle.std.proofs.Common.{arith}
use Rattle.testing_rules_fact_order.proofs.Netting.{no_net, came_turn, left_turn, both_net, net_done}
use Rattle.testing_rules_model.specs.declared.fact_row.FactKind.TheVariants.{Source}
use Rattle.testing_rules_fact_order.proofs.row_changes.merge.Goals as goal

pub turns-init : goal.turns-init
turns-init c = rw (c.requires.put, c.requires.gone) (no_net c.args.came.now c.args.left.now)

pub turns-preserved-in-Came : goal.turns-preserved-in-Came
turns-preserved-in-Came c =
    came_turn c.args.came.now c.args.left.now c.turns.put.items c.turns.gone.items c.push.new.self.items c.turns.i c.turns.j (record { kind = Source; sender = 0; number = 0; place = 0 })
    c.requires.left c.turns.invariant c.in-Came.ensures c.in_ok-push-in-Came.ensures.items

pub turns-preserved-in-Left : goal.turns-preserved-in-Left
turns-preserved-in-Left c =
    left_turn c.args.came.now c.args.left.now c.turns.put.items c.turns.gone.items c.push-in-Left.new.self.items c.turns.i c.turns.j (record { kind = Source; sender = 0; number = 0; place = 0 })
    c.requires.came c.turns.invariant c.in-Left.ensures c.in_ok-push-in-Left.ensures.items

pub turns-preserved : goal.turns-preserved
turns-preserved c =
    let turn = c.in-Both.ensures in
    both_net c.args.came.now c.args.left.now c.turns.put.items c.turns.gone.items c.turns.i c.turns.j c.turns.invariant turn.0 turn.1 turn.2

pub returns : goal.returns
returns c =
    net_done c.args.came.now c.args.left.now c.turns.put.items c.turns.gone.items c.turns.i c.turns.j c.turns.invariant (omega (arith, c.if-i-came.false)) (omega (arith, c.if-j-left.false))
