use Rattle.std.proofs.Common.{◌≡◌, drop}
use Rattle.office_store.specs.steps.MigratingSteps.{cover_on}
use Rattle.office_store.proofs.migration.cover_of.Given as goal

-- what the letters that are left state behind the orders so far, is what all state
abbrev pub invariant-letters : goal.invariant-letters
invariant-letters l = record { left : cover_on l.setup l.finished l.count l.cover (drop l.letter-index l.letters) ≡ cover_on l.setup l.finished 0 0 l.letters }
