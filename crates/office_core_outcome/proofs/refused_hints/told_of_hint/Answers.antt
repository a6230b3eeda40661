use Rattle.std.proofs.Common.{◌≡◌, ◌+◌, ◌++◌, ◌∷◌, ◌≤◌, ℕ, true, false, List, drop, filter, length, string_bytes, refl, sym, ap, subst, ◌∙◌, arith}
use Rattle.std.proofs.lemmas.List.{drop_all}
use Rattle.testing_rules_model.specs.declared.update.Decision.{Decision}
use Rattle.office_core_outcome.specs.HintTold.{is_of_hint}
use Rattle.office_core_outcome.specs.steps.RefusalSteps.{judged_in}
use Rattle.office_core_outcome.specs.WhyRefused.{AreToldOf}
use Rattle.office_core_outcome.proofs.RefusalFacts.{next_decision, told_all, told_more_where, told_none}
use Rattle.office_core_outcome.proofs.refused_hints.told_of_hint.Goals as goal

pub decisions-init : goal.decisions-init
decisions-init c = told_none (judged_in c.args.judging.now) (filter (is_of_hint c.args.number) c.args.decisions.now) (string_bytes c.new-text.result) c.new-text.ensures.bytes

pub decisions-preserved : goal.decisions-preserved
decisions-preserved c =
    let j = judged_in c.args.judging.now in
    let p = is_of_hint c.args.number in
    let ds : List Decision = c.args.decisions.now in
    let i = c.decisions.decision-index in
    let d : Decision = c.decision-item.result in
    let text = string_bytes c.decisions.text in
    let at : drop i ds ≡ d ∷ drop (i + 1) ds = next_decision ds i d c.decisions-test.true c.decision-item.is in
    let grown : string_bytes c.push_str.new.self ≡ text ++ c.in_ok-told.told = c.in_ok-push_str.ensures.bytes ∙ ap (λ (told : List ℕ). text ++ told) c.as_str.ensures in
    λ rest later. subst (λ (t : List ℕ). AreToldOf j (filter p ds) (t ++ rest)) (sym grown) (told_more_where j (filter p ds) (drop i ds) (drop (i + 1) ds) p d (p d) text c.in_ok-told.told refl at c.in_ok-told.ensures c.decisions.invariant rest later)

pub returns : goal.returns
returns c =
    let j = judged_in c.args.judging.now in
    let p = is_of_hint c.args.number in
    let ds : List Decision = c.args.decisions.now in
    let over : length ds ≤ c.decisions.decision-index = omega (arith, c.decisions-test.false) in
    subst (AreToldOf j (filter p ds)) (sym c.from_string.ensures)
    (told_all j (filter p ds) (filter p (drop c.decisions.decision-index ds)) (string_bytes c.decisions.text) (ap (filter p) (drop_all c.decisions.decision-index ds over)) c.decisions.invariant)
