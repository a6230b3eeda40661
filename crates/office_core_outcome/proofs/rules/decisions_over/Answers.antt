use Rattle.std.proofs.Common.{ℕ, List, ap, ◌∙◌}
use Rattle.testing_rules_model.specs.Excuses.{excuses_of}
use Rattle.testing_rules_model.specs.Updates.{IsUpdate, update_of}
use Rattle.testing_rules_model.specs.declared.excuse.Excuse.{Excuse}
use Rattle.office_core_outcome.proofs.rules.decisions_over.Goals as goal

pub returns : goal.returns
returns c = λ s stands.
    let date = c.args.date in
    let t = c.args.testing.now in
    let archs = c.archs-archs.result.now in
    let es = c.in_ok-excuses.excuses in
    let made = c.in_ok-excuses.ensures s stands in
    let moved : IsUpdate archs s es t c.in_ok-update.update c.migrate.new.testing = c.in_ok-update.ensures.ok s date stands made in
    moved.0
    ∙ ap (λ (x : List Excuse). (update_of archs s x t).decisions) made
    ∙ ap (λ (a : List (List ℕ)). (update_of a s (excuses_of a s t date) t).decisions) c.archs-archs.ensures.same
