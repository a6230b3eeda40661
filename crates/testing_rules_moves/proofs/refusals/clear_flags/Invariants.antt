use Rattle.std.proofs.Common.{◌≡◌, false, drop}
use Rattle.testing_install.specs.Among.{with_all}
use Rattle.testing_rules_moves.proofs.refusals.clear_flags.Given as goal

-- those that are left are still to be cleared
abbrev pub invariant-loop-place : goal.invariant-loop-place
invariant-loop-place l = with_all false (drop l.place-index l.places) l.flags.items ≡ with_all false l.places l.fn.flags.items
