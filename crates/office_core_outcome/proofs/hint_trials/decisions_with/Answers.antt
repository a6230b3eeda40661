use Rattle.std.proofs.Common.{sym, subst}
use Rattle.testing_rules_model.specs.FactLists.{FactLists}
use Rattle.testing_rules_model.specs.StandsFor.{StandsFor}
use Rattle.office_core_facts.specs.Seen.{release}
use Rattle.office_core_outcome.specs.Hints.{with_letters}
use Rattle.office_core_outcome.proofs.hint_trials.decisions_with.Goals as goal

pub returns-clause-ok : goal.returns-clause-ok
returns-clause-ok c = λ s stands.
    let setup = c.args.setup.now in
    let t = c.args.testing.now in
    c.in_ok-update.ensures.ok (with_letters setup (release setup) c.args.letters.now s)
    (c.in_ok-take_all.ensures s t (subst (λ (f : FactLists). StandsFor f s t) (sym c.in_ok-with.ensures) stands))
