use Rattle.std.proofs.Common.{◌≡◌, drop, None}
use Rattle.office_store.specs.steps.MigratingSteps.{told_on}
use Rattle.office_store.proofs.migration.last_told.Given as goal

-- what the letters that are left tell behind the last delays so far, is what all tell
abbrev pub invariant-letters : goal.invariant-letters
invariant-letters l = record { left : told_on l.setup l.last (drop l.letter-index l.letters) ≡ told_on l.setup None l.letters }
