use Rattle.std.proofs.Common.{arith, ◌∙◌, sym, ap, subst, ◌<◌, length}
use Rattle.testing_rules_moves.specs.steps.LentItems.{lent_excuses}
use Rattle.testing_rules_moves.specs.steps.Refusals.{excuses_of, AreNumbered}
use Rattle.testing_rules_moves.proofs.Remembering.{excuses_more, numbers_more}
use Rattle.testing_rules_moves.proofs.refusals.with_numbers.Goals as goal

pub loop-number-preserved : goal.loop-number-preserved
loop-number-preserved c =
    let candidates = c.args.candidates.now in
    let items = c.loop-number.circle.items in
    let n = c.loop-number.number in
    let b = c.index-candidates-number.result in
    let near = c.place_of_group-near.result in
    let below : n < length candidates = omega arith in
    let pushed = c.in_ok-push.ensures.items in
    record {
      excuses = ap excuses_of pushed ∙ excuses_more candidates items n near b below c.index-candidates-number.is c.loop-number.invariant.excuses;
      numbers = subst (AreNumbered (lent_excuses candidates)) (sym pushed) (numbers_more candidates items n near b below c.index-candidates-number.is c.loop-number.invariant.numbers);
    }
