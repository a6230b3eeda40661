use Rattle.std.specs.Prelude.{◌≡◌, filter, take}
use Rattle.archive_plan.specs.Sync.{is_package}
use Rattle.archive_plan.proofs.sync.packages.Given as goal

-- the packages so far
abbrev pub invariant-loop-item : goal.invariant-loop-item
invariant-loop-item l = l.found.items ≡ filter is_package (take l.item-index l.items)
