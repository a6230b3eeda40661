use Rattle.std.proofs.Common.{ℕ, ◌+◌, subst}
use Rattle.testing_rules_model.specs.Covered.{Covered}
use Rattle.testing_rules_model.specs.Suite.{Suite}
use Rattle.office_mail.specs.Runs.{cover}
use Rattle.office_core_facts.specs.Seen.{items_within}
use Rattle.office_core_outcome.specs.HintTold.{IsHintText}
use Rattle.office_core_outcome.proofs.hint_texts.told_of.Goals as goal

pub returns-clause-told : goal.returns-clause-told
returns-clause-told c = λ kept k run.
    let setup = c.args.setup.now in
    let snapshot = c.args.snapshot in
    let number = c.args.number in
    let mail : Covered = items_within setup kept (cover setup kept (k + 1)) in
    let told = c.in_ok-told.told in
    record {
      date = snapshot.date;
      dated = run.dated;
      is = subst (λ (t : Suite). IsHintText setup (k + 1) snapshot.date mail t number told) run.is.before
          (subst (λ (n : ℕ). IsHintText setup n snapshot.date mail snapshot.testing number told) run.is.run (c.in_ok-told.ensures.told mail run.is.stand));
    }
