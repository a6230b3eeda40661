use Rattle.std.proofs.Common.{arith, ◌≤◌, length, subst, Option, List}
use Rattle.std.proofs.lemmas.List.{take_all}
use Rattle.testing_rules_items.specs.Words.{Text}
use Rattle.office_core_outcome.specs.steps.Settled.{AreAnswersBehind, IsAnswerBehind}
use Rattle.office_core_outcome.proofs.StuckFacts.{zipped_more}
use Rattle.office_core_outcome.proofs.stuck.each_stuck.Goals as goal

pub loop-source-preserved : goal.loop-source-preserved
loop-source-preserved c =
    let g = c.args.input.now in
    let Told : Text → Option Text → Type 0 = IsAnswerBehind g.archs.now g.facts.now g.excuses.now g.behind.now g.decisions.now in
    let text : Option Text = c.in_ok-text.text in
    let source : Text = c.source-item.result in
    zipped_more Told c.args.sources.now c.loop-source.texts.items c.push.new.self.items c.loop-source.source-index source text (omega arith) c.source-item.is c.loop-source.invariant
    (subst (λ (name : Text). Told name text) c.as_str.ensures c.in_ok-text.ensures) c.in_ok-push.ensures.items

pub returns : goal.returns
returns c =
    let g = c.args.input.now in
    let over : length c.args.sources.now ≤ c.loop-source.source-index = omega arith in
    subst (λ (sources : List Text). AreAnswersBehind g.archs.now g.facts.now g.excuses.now g.behind.now g.decisions.now sources c.loop-source.texts.items) (take_all c.loop-source.source-index c.args.sources.now over) c.loop-source.invariant
