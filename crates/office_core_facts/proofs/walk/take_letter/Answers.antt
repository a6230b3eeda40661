use Rattle.std.proofs.Common.{subst}
use Rattle.office_mail.specs.Kept.{Place}
use Rattle.office_core_facts.specs.Outcome.{item_at}
use Rattle.office_core_facts.specs.steps.Chosen.{IsChosen}
use Rattle.office_core_facts.proofs.ChosenFacts.{letter_passed, letter_taken}
use Rattle.office_core_facts.proofs.walk.take_letter.Goals as goal

pub returns : goal.returns
returns c =
    letter_taken c.args.choice c.args.setup.now c.args.sender c.args.letter.now c.as_slice-text.result.now c.args.facts.now c.take_text.new.facts c.as_slice-text.ensures c.in_ok-take_text.ensures

pub returns-then-not-chosen : goal.returns-then-not-chosen
returns-then-not-chosen c =
    let setup = c.args.setup.now in
    let text = c.as_slice-text.result.now in
    let p : Place = (c.args.sender, c.args.letter.now.number) in
    letter_passed c.args.choice setup c.args.sender c.args.letter.now text c.args.facts.now c.as_slice-text.ensures
    (subst (IsChosen c.args.choice (item_at setup (p, text))) c.if-not-chosen.true (c.in_ok-chosen.ensures p))
