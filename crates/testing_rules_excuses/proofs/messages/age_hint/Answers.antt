use Rattle.std.proofs.Common.{arith, ◌∙◌, sym, ap, ◌<◌, ◌≤◌, length, Some, true, false}
use Rattle.std.proofs.lemmas.List.{take_all}
use Rattle.std.specs.Option.{option_copied}
use Rattle.testing_rules_model.specs.declared.facts.HintIn.{HintIn}
use Rattle.testing_rules_excuses.specs.Origins.{asks_days}
use Rattle.testing_rules_excuses.proofs.Last.{age_hint-more}
use Rattle.testing_rules_excuses.proofs.messages.age_hint.Goals as goal
use Rattle.testing_rules_excuses.proofs.messages.age_hint.Goals.{then-asks_days, else-asks_days}

pub loop-hint-preserved : goal.loop-hint-preserved
loop-hint-preserved c =
    let a = c.args in
    let i = c.loop-hint.hint-index in
    let d = c.hint-item.result in
    let below : i < length a.hints.now = omega arith in
    let more = age_hint-more a.hints.now a.upload.now i d in
    let at_item = ap (asks_days a.upload.now) (sym c.hint-item.is) ∙ sym c.asks_days.ensures in
    elim c.if-asks_days.branch [
      | then-asks_days w ↦ ap option_copied w.last-is ∙ ap (λ (h : HintIn). Some h) c.hint-item.is ∙ sym (more true below (at_item ∙ w.if-asks_days.true))
      | else-asks_days w ↦ ap option_copied w.last-is ∙ c.loop-hint.invariant ∙ sym (more false below (at_item ∙ w.if-asks_days.false))
    ]

pub returns : goal.returns
returns c =
    let over : length c.args.hints.now ≤ c.loop-hint.hint-index = omega arith in
    rw (take_all c.loop-hint.hint-index c.args.hints.now over) at c.loop-hint.invariant
