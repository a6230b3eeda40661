-- One run more.
use Rattle.std.proofs.Common.{◌≡◌, ℕ, suc, ◌+◌, List, [], ◌∷◌, ◌++◌, length, IsSome, sym, ap, subst, ◌∙◌, refl, arith}
use Rattle.std.proofs.lemmas.List.{length-append}
use Rattle.std.specs.FinMap.{get}
use Rattle.office_mail.specs.Lists.{Lists}
use Rattle.office_mail.specs.Kept.{Kept}
use Rattle.office_mail.specs.Runs.{IsReady}
use Rattle.office_store_keeper.specs.declared.values.Reports.{Reports}
use Rattle.office_store_keeper.specs.declared.values.Finished.{Finished}
use Rattle.office_store_keeper.specs.Content.{Content, reports_in, with_run}
use Rattle.office_store_keeper.specs.Provenance.{AreOwnTexts}
use Rattle.office_core_facts.specs.State.{IsOffice, KeepsFacts}
use Rattle.testing_rules_laws.specs.Watched.{AllWatchedWork}
use Rattle.office_core_facts.specs.Outcome.{Outcome, Testing, outcome_of, reports_from, reports_of, reports_to, testing_after}
use Rattle.office_core_facts.specs.steps.Outcome.{outcome_in}

pub reports_to-suc : (setup : Lists) (kept : Kept) (n : ℕ) → reports_to setup kept (n + 1) ≡ reports_to setup kept n ++ reports_of setup kept (n + 1) ∷ []
unfolding reports_to
reports_to-suc setup kept n = let one : n + 1 ≡ suc n = omega arith in rw one refl

-- an office with one run more
pub IsOffice-finished : (setup : Lists) (old new : Content) (left : Finished) → IsOffice setup old → IsReady setup old.kept (length old.reports + 1) → new ≡ with_run old left → outcome_in left ≡ outcome_of setup old.kept (length old.reports + 1) → AllWatchedWork setup.archs left.testing.rows → KeepsFacts setup new → IsOffice setup new
IsOffice-finished setup old new left office ready next is watched keeps =
    let kept : new.kept ≡ old.kept = ap (λ (c : Content). c.kept) next in
    let reports : new.reports ≡ old.reports ++ reports_in left ∷ [] = ap (λ (c : Content). c.reports) next in
    let testing : new.testing ≡ left.testing = ap (λ (c : Content). c.testing) next in
    let size : length new.reports ≡ length old.reports + 1 = ap length reports ∙ length-append old.reports (reports_in left ∷ []) in
    record {
      places = λ p h. office.places p (subst (λ (k : Kept). IsSome (get k p)) kept h);
      texts = subst (AreOwnTexts setup) (sym kept) office.texts;
      ready = rw (size, kept) ready;
      reports = reports ∙ ap (λ (rs : List Reports). rs ++ reports_in left ∷ []) office.reports ∙ ap (λ (o : Outcome). reports_to setup old.kept (length old.reports) ++ reports_from o ∷ []) is
          ∙ sym (reports_to-suc setup old.kept (length old.reports)) ∙ ap (reports_to setup old.kept) (sym size) ∙ ap (λ (k : Kept). reports_to setup k (length new.reports)) (sym kept);
      testing_is = testing ∙ ap (λ (o : Outcome). o.testing) is ∙ ap (testing_after setup old.kept) (sym size) ∙ ap (λ (k : Kept). testing_after setup k (length new.reports)) (sym kept);
      watched = subst (λ (t : Testing). AllWatchedWork setup.archs t.rows) (sym testing) watched;
      facts = keeps;
    }
