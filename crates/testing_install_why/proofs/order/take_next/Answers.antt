use Rattle.std.proofs.Common.{◌<◌, length, arith}
use Rattle.testing_install_why.proofs.Looked.{looked_out}
use Rattle.testing_install_why.proofs.Reading.{place_in}
use Rattle.testing_install_why.proofs.Taking.{order_more}
use Rattle.testing_install_why.proofs.order.take_next.Goals as goal

pub returns-clause-looked : goal.returns-clause-looked
returns-clause-looked c = λ _ places l.
    let rows = c.args.suite.now.rows in
    let step = c.in-Some.step in
    let fails = rw c.in-Some.is at c.in_ok-step.ensures.some in
    let looked = rw c.in-Some.is at c.in_ok-step.ensures.looked in
    let below : step.place < length c.args.left.now = omega (arith, place_in rows step fails.is, c.requires.left) in
    looked_out rows places c.args.left.now c.next_out.new.held c.wake_dependents.new.held c.next_out.new.waiting.items c.wake_dependents.new.waiting.items step.place c.binary.result.now (looked places l) below c.binary.ensures c.in_ok-wake_dependents.ensures.grown c.in_ok-wake_dependents.ensures.woken

pub returns-clause-order : goal.returns-clause-order
returns-clause-order c = λ there o.
    let fails = rw c.in-Some.is at c.in_ok-step.ensures.some in
    rw (c.in_ok-push.ensures.items) (order_more c.args.suite.now.rows there c.args.left.now c.args.steps.now.items c.in-Some.step o fails.is fails.here fails.unmet)
