use Rattle.std.proofs.Common.{◌≡◌, ◌-◌, length}
use Rattle.std.specs.List.{filter_map, range_with_len}
use Rattle.testing_rules_model.specs.JudgedRows.{lent}
use Rattle.testing_rules_model.specs.Moves as moves
use Rattle.testing_rules_refusals.proofs.refusal.refused.Given as goal

-- none before this architecture
abbrev pub invariant-loop-arch : goal.invariant-loop-arch
invariant-loop-arch l =
    moves.first_of (filter_map (moves.offender_on (lent l.old) (lent l.new) l.group) (range_with_len l.arch (length l.archs - l.arch)))
    ≡ moves.offender_of l.archs (lent l.old) (lent l.new) l.group
