use Rattle.std.proofs.Common.{◌≡◌, drop}
use Rattle.office_core_outcome.specs.WhyRefused.{hint_at}
use Rattle.office_core_outcome.proofs.refused_items.hint_at.Given as goal

-- none so far
abbrev pub invariant-loop-hint : goal.invariant-loop-hint
invariant-loop-hint l = hint_at (drop l.hint-index l.hints) l.number ≡ hint_at l.hints l.number
