use Rattle.std.proofs.Common.{ℕ, ap, subst, ◌∙◌}
use Rattle.std.proofs.lemmas.Result.{on_ok_weaker}
use Rattle.testing_rules_model.specs.Covered.{Covered}
use Rattle.testing_rules_model.specs.StandsFor.{StandsFor}
use Rattle.office_core_facts.specs.steps.Walk.{said_in}
use Rattle.office_core_facts.specs.Seen.{release}
use Rattle.office_core_outcome.proofs.HintFacts.{letters_said}
use Rattle.office_core_outcome.proofs.decisions.take_all.Goals as goal

pub returns : goal.returns
returns c =
    let setup = c.args.setup.now in
    let letters = c.args.letters.now in
    on_ok_weaker c.take_letters.result
    (λ took s t h. subst (λ (l : Covered). StandsFor c.take_letters.new.facts l t)
    (ap (λ (r : ℕ). said_in setup r letters s) c.release_place-place.ensures ∙ letters_said setup (release setup) letters s) (took.taken t c.args.facts.now s h))
    c.take_letters.ensures
