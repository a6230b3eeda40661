use Rattle.std.proofs.Common.{◌≡◌, drop, length}
use Rattle.testing_install.specs.Among.{with_all}
use Rattle.testing_rules_suites.proofs.carried_suites.set_flags.Given as goal

-- those that are left are still to be set
abbrev pub invariant-loop-place : goal.invariant-loop-place
invariant-loop-place l = record {
  left : with_all l.flag (drop l.place-index l.places) l.flags.items ≡ with_all l.flag l.places l.fn.flags.items;
  long : length l.flags.items ≡ length l.fn.flags.items;
}
