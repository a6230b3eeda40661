-- Testing's rows during a run: the present rows of a pool, or a list.
use Rattle.std.specs.Prelude.{◌≡◌, true, List}
use Rattle.std.specs.List.{list_all}
use Rattle.testing_rules_model.specs.declared.facts.UploadIn.{UploadIn}
use Rattle.testing_rules_live.specs.declared.live_rows.LiveRows.{LiveRows}
use Rattle.testing_rules_live.specs.declared.live_rows.LiveRows.TheVariants.{Pooled, Listed}
use Rattle.testing_rules_model.specs.declared.suite.RowIn.{RowIn}
use Rattle.testing_rules_model.specs.declared.suite.SourceIn.{SourceIn}
use Rattle.testing_rules_model.specs.steps.FactOrder.{IsUnstableOrder}
use Rattle.testing_rules_model.specs.steps.InOrder.{IsInOrder}
use Rattle.testing_rules_model.specs.steps.SourceFilter.{hash_passes}
use Rattle.testing_rules_suites.specs.declared.change.Change.{Change}
use Rattle.testing_rules_suites.specs.steps.Changes.{IsMoveOf}
use Rattle.testing_rules_suites.specs.steps.PresentSteps.{IsLive, PoolState, present_rows}
use Rattle.testing_rules_suites.specs.steps.Tried.{IsWithin}
use Rattle.testing_rules_items.specs.Words.{Text}

-- the rows
abbrev pub held : LiveRows → List RowIn
held (Pooled s) = present_rows s
held (Listed rows) = rows.items

-- if they are the present rows of a pool, it has rows before the run and unstable's, for these architectures
abbrev pub AreLive : LiveRows → List Text → List RowIn → Type 0
AreLive (Pooled s) archs unstable = IsLive s archs unstable (present_rows s)
AreLive (Listed rows) archs unstable = Unit {0}

-- the change is the move of the group, with all its coming rows in the pool
pub record IsPoolMove (s : PoolState) (sources : List UploadIn) (group : List Text) (change : Change) : Type 0 where
  pub offered : list_all (hash_passes s.candidates) group ≡ true
  pub within : IsWithin s.rows change.leaving.items change.coming.items
  pub moves : IsMoveOf s.rows s.stands s.first sources group change.leaving.items change.coming.items

-- the same, if the rows are those of a pool
abbrev pub IsChangeBy : LiveRows → List UploadIn → List Text → Change → Type 0
IsChangeBy (Pooled s) sources group change = IsPoolMove s sources group change
IsChangeBy (Listed rows) sources group change = Unit {0}

-- a run's testing: unstable and testing are in order, and the rows are live
pub record IsLiveTesting (rows : LiveRows) (archs : List Text) (sources : List UploadIn) (unstable : List RowIn) (there : List SourceIn) : Type 0 where
  pub order : IsUnstableOrder sources unstable
  pub in_order : IsInOrder there (held rows)
  pub live : AreLive rows archs unstable
