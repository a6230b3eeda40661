use Rattle.std.proofs.Common.{arith, ◌∙◌, sym, ap, ◌<◌, length, get_or, Some, true, false}
use Rattle.std.specs.Option.{option_copied}
use Rattle.deb_control.specs.declared.binary.Binary.{Binary}
use Rattle.testing_rules_items.specs.Words.{byte_cmp}
use Rattle.testing_rules_items.specs.steps.Words.{first_of_two}
use Rattle.testing_rules_model.specs.Moves.{fails_on}
use Rattle.testing_rules_suites.specs.steps.JudgedRows.{answer, answers}
use Rattle.testing_rules_suites.proofs.Failing.{first_failing-more}
use Rattle.testing_rules_live.proofs.offender.first_failing.Goals as goal
use Rattle.testing_rules_live.proofs.offender.first_failing.Goals.{then-fails_on, else-fails_on}

pub loop-judged-preserved : goal.loop-judged-preserved
loop-judged-preserved c =
    let a = c.args in
    let i = c.loop-judged.judged-index in
    let d = c.judged-item.result in
    let below : i < length a.after.now = omega arith in
    let more = first_failing-more a.arch a.group.now (answers a.before.now) a.after.now i d in
    let at_item = ap (λ j. fails_on a.arch a.group.now (answers a.before.now) (answer j)) (sym c.judged-item.is) ∙ sym c.fails_on.ensures in
    let name_is = ap (λ j. j.row.binary.now.name) c.judged-item.is in
    elim c.if-fails_on.branch [
      | then-fails_on w ↦
          ap option_copied w.first-is
          ∙ ap (λ n. Some n) (w.first_of_two.ensures ∙ ap (λ n. first_of_two byte_cmp (option_copied c.loop-judged.first) n) (w.as_str.ensures ∙ ap (λ (q : Binary). q.name) w.deref.ensures ∙ name_is)
          ∙ ap (λ m. first_of_two byte_cmp m (get_or a.after.now i d).row.binary.now.name) c.loop-judged.invariant)
          ∙ sym (more true below (at_item ∙ w.if-fails_on.true))
      | else-fails_on w ↦ ap option_copied w.first-is ∙ c.loop-judged.invariant ∙ sym (more false below (at_item ∙ w.if-fails_on.false))
    ]
