use Rattle.std.proofs.Common.{◌∙◌, sym}
use Rattle.testing_rules_facts.proofs.Elsewhere.{all_there}
use Rattle.testing_rules_facts.proofs.built.are_there.Goals as goal

pub returns-in-Some-last : goal.returns-in-Some-last
returns-in-Some-last c = λ both.
    all_there c.args.arch.now c.args.builds.now c.in-Some.first.now c.in-Some-last.last.now c.requires (sym c.in-Some.ensures.value) (sym c.in-Some-last.ensures.value)
    (sym c.are_both_on.ensures ∙ both)
