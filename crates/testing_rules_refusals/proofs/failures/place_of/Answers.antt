use Rattle.std.proofs.Common.{arith, ◌∙◌, sym, ◌<◌, ◌≤◌, length}
use Rattle.std.proofs.lemmas.List.{length-map}
use Rattle.testing_rules_suites.specs.steps.JudgedRows.{answer, answers}
use Rattle.testing_rules_refusals.proofs.Failings.{none_more, none_at_all}
use Rattle.testing_rules_refusals.proofs.Failings.{answer_at}
use Rattle.testing_rules_refusals.proofs.failures.place_of.Goals as goal

pub returns-then-is_failing-clause-some : goal.returns-then-is_failing-clause-some
returns-then-is_failing-clause-some c =
    let after = c.args.after.now in
    let j = c.index-after-place.result in
    let below : c.loop-place.place < length after = omega arith in
    record {
      answer = answer j;
      stands = answer_at after c.loop-place.place j below c.index-after-place.is;
      is = sym c.is_failing.ensures ∙ c.if-is_failing.true;
    }

pub loop-place-preserved : goal.loop-place-preserved
loop-place-preserved c =
    let a = c.args in
    let j = c.index-after-place.result in
    let n = c.loop-place.place in
    let below : n < length a.after.now = omega arith in
    none_more a.arch a.group.now (answers a.before.now) (answers a.after.now) a.name.now n (answer j)
    (answer_at a.after.now n j below c.index-after-place.is) (sym c.is_failing.ensures ∙ c.if-is_failing.false) c.loop-place.invariant

pub returns-clause-none : goal.returns-clause-none
returns-clause-none c =
    let a = c.args in
    let n = c.loop-place.place in
    let over : length a.after.now ≤ n = omega arith in
    let same = length-map a.after.now answer in
    none_at_all a.arch a.group.now (answers a.before.now) (answers a.after.now) a.name.now n (omega (arith, over, same)) c.loop-place.invariant
