use Rattle.std.proofs.Common.{◌≡◌, subst}
use Rattle.testing_rules_model.specs.Covered.{Covered}
use Rattle.testing_rules_model.specs.StandsFor.{StandsFor}
use Rattle.testing_rules_model.specs.Suite.{Suite}
use Rattle.office_core_outcome.specs.Proposal.{decisions_by}
use Rattle.office_core_outcome.proofs.hint_trials.decisions_beside.Goals as goal

pub returns-clause-ok : goal.returns-clause-ok
returns-clause-ok c =
    subst (λ (t : Suite). (s : Covered) → StandsFor c.args.facts.now s t → c.in_ok-update.update ≡ decisions_by c.args.setup.now c.args.date s t) c.in_ok-after.ensures.shared c.in_ok-update.ensures
