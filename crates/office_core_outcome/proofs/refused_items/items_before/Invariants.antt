use Rattle.std.proofs.Common.{◌≡◌, ◌++◌, drop}
use Rattle.office_core_outcome.specs.WhyRefused.{is_item, items_until}
use Rattle.office_core_outcome.proofs.refused_items.items_before.Given as goal

-- the items so far, and those that are left
abbrev pub invariant-items : goal.invariant-items
invariant-items l = l.earlier.items ++ items_until (is_item l.name l.version) (drop l.item-index l.items) ≡ items_until (is_item l.name l.version) l.items
