-- What is loaded of the last finished run, before anything is decided by it.
use Rattle.std.specs.Prelude.{◌≡◌, ℕ, Bool, true, length, Option, Some, None, Ok, IfSome}
use Rattle.testing_rules_model.specs.FactLists.{FactLists}
use Rattle.testing_rules_model.specs.StandsFor.{StandsFor}
use Rattle.office_mail.specs.Lists.{Lists}
use Rattle.office_mail.specs.Kept.{Kept}
use Rattle.office_mail.specs.Runs.{latest_day, orders_to}
use Rattle.office_store_keeper.specs.Content.{Content}
use Rattle.office_store_keeper.specs.declared.keeper.Keeper.{Ghosts}
use Rattle.office_core_store.specs.ReadsStore.{ReadsStore}
use Rattle.office_core_facts.specs.declared.covered.KnownFacts.{KnownFacts}
use Rattle.office_core_facts.specs.declared.last_run.FinishedRuns.{FinishedRuns}
use Rattle.office_core_facts.specs.declared.last_run.LastRun.{LastRun}
use Rattle.office_core_facts.specs.declared.last_run.RunFacts.{RunFacts}
use Rattle.office_core_facts.specs.declared.last_run.RunFacts.TheVariants.{Known, Taken}
use Rattle.office_core_facts.specs.Known.{AreKnown}
use Rattle.office_core_facts.specs.Outcome.{covered_items, testing_after}
use Rattle.office_core_facts.specs.State.{IsOffice}

-- a call on a store that only asked it, and went well
abbrev pub ReadsWell : {K : Type 0} → Ghosts K → K → K → Type 0
ReadsWell keeper old new = ReadsStore {T = Bool} keeper old new (Ok true)

-- the store's finished runs are counted, and in an office these are the orders of all of them
pub record AreFinished (setup : Lists) (content : Content) (finished : FinishedRuns) : Type 0 where
  pub count : finished.count ≡ length content.reports
  pub orders : IsOffice setup content → finished.orders.items ≡ orders_to setup content.kept (length content.reports)
  pub all : IsOffice setup content → length finished.orders.items ≡ length content.reports

-- this holds in an office with these finished runs, of whose mail this is known
abbrev pub OfRuns : Lists → Content → FinishedRuns → Option KnownFacts → Type 0 → Type 0
OfRuns setup content finished known claim = IsOffice setup content → AreFinished setup content finished → IfSome known (λ (k : KnownFacts). AreKnown setup content k) → claim

-- the facts themselves, lent or owned
abbrev pub facts_in : RunFacts → FactLists
facts_in (Known known) = known.now.facts
facts_in (Taken known) = known.facts

-- Run k is loaded: its number and day, facts that stand for the mail it covers, and the testing that it left.
pub record IsLoaded (setup : Lists) (kept : Kept) (k : ℕ) (last : LastRun) : Type 0 where
  pub number : last.number ≡ k
  pub dated : latest_day (orders_to setup kept k) ≡ Some last.date
  pub stands : StandsFor (facts_in last.facts) (covered_items setup kept k) last.testing
  pub testing : last.testing ≡ testing_after setup kept k

-- run k is loaded if a run is finished, and else nothing is
abbrev pub IsLastRun : Lists → Kept → ℕ → Option LastRun → Type 0
IsLastRun setup kept k None = k ≡ 0
IsLastRun setup kept k (Some last) = IsLoaded setup kept k last
