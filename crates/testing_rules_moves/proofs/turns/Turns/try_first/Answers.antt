use Rattle.std.proofs.Common.{ap, Ok}
use Rattle.testing_rules_moves.proofs.Trying.{known_still, tried_moved, tried_stayed}
use Rattle.testing_rules_moves.proofs.turns.Turns.try_first.Goals as goal

pub returns-then-branch : goal.returns-then-branch
returns-then-branch c = λ excuses number known.
    let moved = ap Ok c.if-branch.true in
    let trial = c.in_ok-move_alone.ensures in
    tried_moved c.args.self.now c.move_alone.new.self excuses c.args.candidate.excuse.now c.move_alone.new.refusals
    c.args.refusals.now known (trial.moved moved) (trial.after moved) (trial.woken moved)

pub returns : goal.returns
returns c = λ excuses number known.
    let stayed = ap Ok c.if-branch.false in
    let trial = c.in_ok-move_alone.ensures in
    let still = known_still c.args.self.now c.move_alone.new.self excuses c.args.refusals.now c.move_alone.new.refusals (trial.same stayed) (trial.asleep stayed) known in
    tried_stayed c.args.self.now c.move_alone.new.self excuses c.args.candidate.excuse.now c.remember_lack.new.refusals
    (c.in_ok-remember_lack.ensures.known excuses number still) (trial.stays stayed) (trial.same stayed)
