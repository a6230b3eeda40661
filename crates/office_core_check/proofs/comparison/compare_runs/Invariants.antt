use Rattle.std.proofs.Common.{◌-◌, ◌≡◌, ◌≤◌, ℕ}
use Rattle.office_store_keeper.specs.Content.{item_from_one}
use Rattle.office_store_keeper.specs.MemoryState.{content_of}
use Rattle.office_core_store.proofs.LookFacts.{Looked}
use Rattle.office_core_check.proofs.comparison.compare_runs.Given as goal

-- the reports of the runs so far are the same
abbrev pub invariant-runs : goal.invariant-runs
invariant-runs g l = record {
  looks : Looked g.K.Keeper l.fn.keeper l.keeper;
  same : content_of l.made.plain ≡ content_of l.fn.made.plain;
  within : l.done ≤ l.runs;
  each : g.K.Keeper.is_trusted l.keeper → (k : ℕ) → 1 ≤ k → k ≤ l.done → item_from_one k (g.K.Keeper.content l.fn.keeper).reports ≡ item_from_one k (content_of l.fn.made.plain).reports;
}

abbrev pub decreases-runs : goal.decreases-runs
decreases-runs g l = l.runs - l.done
