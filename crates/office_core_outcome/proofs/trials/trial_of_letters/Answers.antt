use Rattle.std.proofs.Common.{◌≡◌, ◌+◌, arith}
use Rattle.testing_rules_model.specs.Covered.{Covered}
use Rattle.office_core_facts.specs.Seen.{items_within, release}
use Rattle.office_core_outcome.proofs.TryFacts.{reasons_are, tried_is}
use Rattle.office_core_outcome.proofs.trials.trial_of_letters.Goals as goal

pub returns-clause-tried : goal.returns-clause-tried
returns-clause-tried c = λ kept k covers hints is few lettered.
    let setup = c.args.setup.now in
    let snapshot = c.args.snapshot in
    let date = snapshot.date in
    let letters = c.args.letters.now in
    let mail : Covered = items_within setup kept covers in
    let first : c.saturating_add-first.result ≡ covers (release setup) + 1 = omega (arith, c.saturating_add-first.ensures, is.behind, few) in
    let told = c.in_ok-without.ensures.with_them mail is.stand in
    record {
      report_is = tried_is setup kept k date covers hints letters snapshot.testing lettered is.before snapshot.run c.saturating_add-first.result c.in_ok-without.without c.in_ok-without.told.decided is.run first
          (c.in_ok-without.ensures.without mail is.stand) told.decided_is;
      reasons_are = reasons_are setup kept k date covers hints letters snapshot.testing lettered is.before snapshot.behind c.in_ok-without.told.reasons is.behind told.reasons_are;
    }
