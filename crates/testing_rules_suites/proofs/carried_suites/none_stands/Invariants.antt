use Rattle.std.proofs.Common.{◌≡◌, false, take}
use Rattle.std.specs.List.{list_any}
use Rattle.testing_install.specs.Closed.{marked}
use Rattle.testing_rules_suites.proofs.carried_suites.none_stands.Given as goal

-- none so far
abbrev pub invariant-loop-place : goal.invariant-loop-place
invariant-loop-place l = list_any (marked l.flags) (take l.place-index l.places) ≡ false
