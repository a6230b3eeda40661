use Rattle.std.proofs.Common.{arith, ◌∙◌, sym, ap, ◌<◌, length, Option, ℕ, ◌≤◌}
use Rattle.testing_rules_model.specs.Excuses.{asked_days}
use Rattle.testing_rules_model.specs.declared.facts.HintIn.{HintIn}
use Rattle.testing_rules_items.proofs.Last.{last-some, last-none}
use Rattle.std.proofs.lemmas.List.{take_all}
use Rattle.testing_rules_excuses.proofs.days.hinted_days.Goals as goal
use Rattle.testing_rules_excuses.proofs.days.hinted_days.Goals.{in-Some, in_default}

pub loop-hint-preserved : goal.loop-hint-preserved
loop-hint-preserved c =
    let u = c.args.upload.now in
    let hs = c.args.hints.now in
    let i = c.loop-hint.hint-index in
    let d = c.hint-item.result in
    let below : i < length hs = omega arith in
    let f : HintIn → Option ℕ = λ h. asked_days u.source u.version h.hint in
    let asked = ap f (sym c.hint-item.is) ∙ ap (λ t. asked_days t u.version d.hint) (sym c.as_str.ensures) ∙ sym c.asked_days.ensures in
    elim c.match-asked_days.branch [
      | in-Some w ↦ w.days-is ∙ sym (last-some f hs i d below w.in-Some.asked (asked ∙ w.in-Some.is))
      | in_default w ↦ w.days-is ∙ c.loop-hint.invariant ∙ sym (last-none f hs i d below (asked ∙ w.in_default.is))
    ]

pub returns : goal.returns
returns c =
    let over : length c.args.hints.now ≤ c.loop-hint.hint-index = omega arith in
    rw (take_all c.loop-hint.hint-index c.args.hints.now over) at c.loop-hint.invariant
