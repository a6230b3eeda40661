use Rattle.std.proofs.Common.{arith, ap, sym, subst}
use Rattle.testing_install.proofs.Looking.{work_turned, waiting_places}
use Rattle.testing_install.proofs.Places.{length-binaries}
use Rattle.testing_install.specs.Rows.{binaries}
use Rattle.testing_install.specs.steps.Progress.{IsWork}
use Rattle.testing_install.proofs.work.propagate.Goals as goal

pub next_turn-requires-clause-waiting : goal.next_turn-requires-clause-waiting
next_turn-requires-clause-waiting c = waiting_places _ _ c.loop-lost.invariant.work

pub next_turn-requires-clause-turns : goal.next_turn-requires-clause-turns
next_turn-requires-clause-turns c = omega (arith, c.loop-lost.invariant.work.bounded.balance, length-binaries c.args.ground.now.rows.now)

pub check_clauses-requires-clause-work : goal.check_clauses-requires-clause-work
check_clauses-requires-clause-work c = subst (IsWork (binaries c.args.ground.now.rows.now) c.next_turn.new.self) (sym c.deref.ensures.value) (work_turned _ _ _ _ c.loop-lost.invariant.work c.in-Some.ensures.some)

pub loop-lost-smaller : goal.loop-lost-smaller
loop-lost-smaller c =
    let turned = ap (λ v. v.turns) c.in-Some.ensures.some.left in
    omega (arith, c.loop-lost.invariant.work.bounded.balance, c.in_ok-check_clauses.ensures.done.bounded.balance, c.in_ok-check_clauses.ensures.turns, turned)

pub loop-lost-preserved : goal.loop-lost-preserved
loop-lost-preserved c =
    let same = ap (λ v. v.looks) c.in-Some.ensures.some.left in
    record { work = c.in_ok-check_clauses.ensures.done; counted = omega (arith, c.loop-lost.invariant.counted, c.in_ok-check_clauses.ensures.counted, same) }

pub returns-clause-done : goal.returns-clause-done
returns-clause-done c = subst (λ v. IsWork (binaries c.args.ground.now.rows.now) v _) (sym c.in_default.ensures.none) c.loop-lost.invariant.work

pub returns-clause-counted : goal.returns-clause-counted
returns-clause-counted c = omega (arith, c.loop-lost.invariant.counted, ap (λ v. v.looks) c.in_default.ensures.none)
