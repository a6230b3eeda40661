use Rattle.std.proofs.Common.{ℕ, List, ap, subst, ◌∙◌}
use Rattle.testing_rules_model.specs.Excuses.{excuses_of}
use Rattle.testing_rules_model.specs.Updates.{IsUpdate}
use Rattle.office_core_outcome.proofs.rules.judge_run.Goals as goal

pub returns-in-Ok : goal.returns-in-Ok
returns-in-Ok c = λ s stands.
    let date = c.args.date in
    let t = c.args.testing.now in
    let archs = c.archs-archs.result.now in
    let es = c.in_ok-excuses.excuses in
    let same = c.archs-archs.ensures.same in
    let made = c.in_ok-excuses.ensures s stands in
    let moved : IsUpdate archs s es t c.in-Ok.update c.migrate.new.testing = c.in-Ok.ensures.ok s date stands made in
    record {
      excuses = made ∙ ap (λ (a : List (List ℕ)). excuses_of a s t date) same;
      update = subst (λ (a : List (List ℕ)). IsUpdate a s es t c.in-Ok.update c.migrate.new.testing) same moved;
    }
