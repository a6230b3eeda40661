use Rattle.std.proofs.Common.{◌<◌, length, subst, ◌∙◌, arith}
use Rattle.std.specs.List.{All}
use Rattle.std.proofs.lemmas.List.{length-set}
use Rattle.testing_install.specs.Closed.{marked}
use Rattle.testing_install_why.specs.steps.Taking.{IsLooked}
use Rattle.testing_install_why.proofs.Looked.{fails_by, held_in, looked_all, looked_held, looked_past, within_front, within_last}
use Rattle.testing_install_why.proofs.order.next_out.Goals as goal

pub returns-in-Some-2-clause-some : goal.returns-in-Some-2-clause-some
returns-in-Some-2-clause-some c =
    fails_by c.args.suite.now.rows (marked c.args.left.now) c.in-Some.place c.in-Some-2.need c.binary.result.now c.binary.ensures c.if-left-place.true (rw c.in-Some-2.is at c.in_ok-need.ensures.some)

pub returns-in-Some-2-clause-looked : goal.returns-in-Some-2-clause-looked
returns-in-Some-2-clause-looked c = λ places l.
    subst (λ xs. IsLooked c.args.suite.now.rows places c.args.left.now c.loop-place.held xs) c.in-Some.ensures.items (c.loop-place.invariant.looked places l)

pub loop-place-preserved-then-left-place : goal.loop-place-preserved-then-left-place
loop-place-preserved-then-left-place c =
    let rows = c.args.suite.now.rows in
    let left = c.args.left.now in
    let held = c.loop-place.held in
    let waiting = c.pop.new.self.items in
    let place = c.in-Some.place in
    let within = subst (λ xs. All (λ k. k < length rows) xs) c.in-Some.ensures.items c.loop-place.invariant.within in
    let below : place < length held = omega (arith, within_last (length rows) waiting place within, c.loop-place.invariant.long) in
    let here = held_in rows left place c.binary.result.now c.binary.ensures (rw c.in_default-2.is at c.in_ok-need.ensures.none) in
    record {
      long = length-set held place _ ∙ c.loop-place.invariant.long;
      within = within_front (length rows) waiting place within;
      looked = λ places l. looked_held rows places left held waiting place (subst (λ xs. IsLooked rows places left held xs) c.in-Some.ensures.items (c.loop-place.invariant.looked places l)) below here;
    }

pub loop-place-preserved : goal.loop-place-preserved
loop-place-preserved c =
    let rows = c.args.suite.now.rows in
    let left = c.args.left.now in
    let held = c.loop-place.held in
    let waiting = c.pop.new.self.items in
    let place = c.in-Some.place in
    let within = subst (λ xs. All (λ k. k < length rows) xs) c.in-Some.ensures.items c.loop-place.invariant.within in
    record {
      long = c.loop-place.invariant.long;
      within = within_front (length rows) waiting place within;
      looked = λ places l. looked_past rows places left held waiting place (subst (λ xs. IsLooked rows places left held xs) c.in-Some.ensures.items (c.loop-place.invariant.looked places l)) c.if-left-place.false;
    }

pub returns-clause-none : goal.returns-clause-none
returns-clause-none c = λ places l.
    looked_all c.args.suite.now.rows places c.args.left.now c.loop-place.held c.loop-place.waiting.items (c.loop-place.invariant.looked places l) (omega (arith, c.in_default.ensures.cases.0, c.loop-place.waiting.ok.0))
