use Rattle.std.proofs.Common.{◌+◌, ◌-◌, ◌≤◌, length}
use Rattle.deb_control.proofs.grammar.count_items.Given as goal

-- no more items than bytes came before this end, and one
abbrev pub invariant-items : goal.invariant-items
invariant-items l = (l.items ≤ l.end + 1) × (l.end ≤ length l.text)

abbrev pub decreases-items : goal.decreases-items
decreases-items l = length l.text - l.end
