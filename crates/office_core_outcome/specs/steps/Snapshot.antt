-- Snapshots of the next run: what those of a trial and of the run as ordered have.
use Rattle.std.specs.Prelude.{◌≡◌, ◌≤◌, ℕ, ◌+◌, length, Option, Some, IfSome}
use Rattle.std.specs.Option.{option_map}
use Rattle.testing_rules_model.specs.StandsFor.{StandsFor}
use Rattle.office_mail.specs.Lists.{Lists}
use Rattle.office_mail.specs.Kept.{Kept}
use Rattle.office_mail.specs.Runs.{cover, latest_day, orders_to}
use Rattle.office_store_keeper.specs.Content.{Content}
use Rattle.office_core_facts.specs.Outcome.{testing_after}
use Rattle.office_core_facts.specs.Seen.{AreTrialCovers, items_within, release}
use Rattle.office_core_outcome.specs.declared.TrialOptions.{TrialOptions}
use Rattle.office_core_outcome.specs.declared.snapshot.Snapshot.{Snapshot}
use Rattle.office_core_outcome.specs.Trial.{trial_date}

-- a snapshot of run k + 1 over these covers: its facts stand for what they cover, and its testing is what run k left
pub record IsSnapshot (setup : Lists) (kept : Kept) (k : ℕ) (covers : ℕ → ℕ) (o : Snapshot) : Type 0 where
  pub run : o.run ≡ k + 1
  pub behind : o.behind ≡ covers (release setup)
  pub stand : StandsFor o.facts (items_within setup kept covers) o.testing
  pub before : o.testing ≡ testing_after setup kept k

-- a snapshot of the run of a trial on these terms after k finished runs
pub record IsTrialSnapshot (setup : Lists) (kept : Kept) (k : ℕ) (terms : TrialOptions) (o : Snapshot) : Type 0 where
  pub covers : ℕ → ℕ
  pub are : AreTrialCovers setup kept k terms.all covers
  pub few : covers (release setup) ≤ 999_999_999
  pub dated : Some o.date ≡ trial_date (latest_day (orders_to setup kept k)) terms.day
  pub is : IsSnapshot setup kept k covers o

-- a snapshot of run k + 1 as its order has it
pub record IsOrderedSnapshot (setup : Lists) (kept : Kept) (k : ℕ) (o : Snapshot) : Type 0 where
  pub dated : latest_day (orders_to setup kept (k + 1)) ≡ Some o.date
  pub is : IsSnapshot setup kept k (cover setup kept (k + 1)) o

-- What is found for a trial on these terms: none if its run has no date, or else a snapshot. It is one of that run if
-- the store is legible.
pub record IsFoundSnapshot (setup : Lists) (content : Content) (legible : Type 0) (terms : TrialOptions) (found : Option Snapshot) : Type 0 where
  pub covers : ℕ → ℕ
  pub are : AreTrialCovers setup content.kept (length content.reports) terms.all covers
  pub few : covers (release setup) ≤ 999_999_999
  pub dated : option_map (λ (o : Snapshot). o.date) found ≡ trial_date (latest_day (orders_to setup content.kept (length content.reports))) terms.day
  pub is : legible → IfSome found (IsSnapshot setup content.kept (length content.reports) covers)

-- a snapshot that is found has testing as it is kept
abbrev pub HasTesting : Content → Option Snapshot → Type 0
HasTesting content found = IfSome found (λ o. o.testing ≡ content.testing)
