-- What is found for a trial.
use Rattle.std.proofs.Common.{◌≡◌, ◌∙◌, List, [], ℕ, length, Option, Some, None, is_none, refl, ap}
use Rattle.std.specs.Option.{option_map}
use Rattle.office_mail.specs.Lists.{Lists}
use Rattle.office_mail.specs.Runs.{latest_day, orders_to}
use Rattle.office_store_keeper.specs.Content.{Content}
use Rattle.office_core_outcome.specs.declared.TrialOptions.{TrialOptions}
use Rattle.office_core_outcome.specs.declared.Trial.TheVariants.{NoDate}
use Rattle.office_core_outcome.specs.declared.snapshot.Snapshot.{Snapshot}
use Rattle.office_core_outcome.specs.Trial.{IsTrial, trial_date}
use Rattle.office_core_outcome.specs.steps.Snapshot.{IsFoundSnapshot, IsTrialSnapshot}
use Rattle.office_core_outcome.proofs.TryFacts.{is_trial}

-- a snapshot that is found is one of the trial's run
pub found_trial : (setup : Lists) (content : Content) (legible : Type 0) (terms : TrialOptions) (o : Snapshot) → IsFoundSnapshot setup content legible terms (Some o) → legible → IsTrialSnapshot setup content.kept (length content.reports) terms o
found_trial setup content legible terms o found so = record { covers = found.covers; are = found.are; few = found.few; dated = found.dated; is = found.is so }

-- where none is, the trial has no date
pub no_date : (setup : Lists) (content : Content) (legible : Type 0) (terms : TrialOptions) (hints : List (List ℕ)) → IsFoundSnapshot setup content legible terms None → IsTrial setup content.kept (length content.reports) terms hints NoDate
no_date setup content legible terms hints found =
    is_trial setup content.kept (length content.reports) terms hints found.covers None NoDate [] found.are found.dated refl tt

none_mapped : (found : Option Snapshot) → is_none found ≡ is_none (option_map (λ (o : Snapshot). o.date) found)
none_mapped None = refl
none_mapped (Some o) = refl

-- and only there
pub found_dated : (setup : Lists) (content : Content) (legible : Type 0) (terms : TrialOptions) (found : Option Snapshot) → IsFoundSnapshot setup content legible terms found
    → is_none found ≡ is_none (trial_date (latest_day (orders_to setup content.kept (length content.reports))) terms.day)
found_dated setup content legible terms found is = none_mapped found ∙ ap is_none is.dated
