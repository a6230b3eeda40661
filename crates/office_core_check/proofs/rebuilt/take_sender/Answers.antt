use Rattle.std.proofs.Common.{rules, ◌+◌, Some, sym, subst, ◌∙◌, arith}
use Rattle.office_store_keeper.specs.Content.{Content}
use Rattle.office_store_keeper.specs.MemoryState.{content_of}
use Rattle.office_store_keeper.specs.declared.values.Letter.{Letter}
use Rattle.office_core_store.proofs.LookFacts.{looked_then}
use Rattle.office_core_check.specs.steps.Reading.{IsFront, IsNextLetter}
use Rattle.office_core_check.proofs.FrontFacts.{front_more}
use Rattle.office_core_check.proofs.rebuilt.take_sender.Goals as goal

pub loop-letter-preserved : goal.loop-letter-preserved
loop-letter-preserved g c =
    let keeper = g.K.Keeper in
    let s0 = c.args.keeper.now in
    let s1 = c.loop-letter.keeper in
    let s2 = c.letter_from.new.keeper in
    let so = c.loop-letter.invariant in
    let sender = c.args.sender in
    let from = c.loop-letter.from in
    let kept = (keeper.content s0).kept in
    let letter : Letter = c.in-Some.letter in
    let step = c.in_ok-letter.ensures in
    let taken = c.in_ok-take_letter.ensures in
    let low = taken.few (search rules) in
    record {
      looks = looked_then keeper s0 s1 s2 so.looks step.looks;
      setup = taken.setup ∙ so.setup;
      anew = λ office. taken.anew (so.anew office);
      few = omega (arith, low);
      front = λ trusted office start.
          let before = so.front (step.looks.before trusted) office start in
          let next : IsNextLetter kept sender from (Some letter) =
          subst (IsNextLetter kept sender from) c.in-Some.is (subst (λ (m : Content). IsNextLetter m.kept sender from c.in_ok-letter.field-0) (so.looks.same (step.looks.before trusted)) (step.next trusted)) in
          subst (IsFront kept sender (letter.number + 1))
          (sym (taken.own (so.anew office) (before.above letter.number next.0) (search rules)))
          (front_more kept (content_of c.loop-letter.office.plain).kept sender from letter before next);
    }
