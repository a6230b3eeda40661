use Rattle.std.proofs.Common.{◌-◌, vec_len}
use Rattle.testing_rules_facts.proofs.build_blocks.top_up.Given as goal

-- nothing but that the spares grow
abbrev pub invariant-spares : goal.invariant-spares
invariant-spares l = Unit {0}

abbrev pub decreases-spares : goal.decreases-spares
decreases-spares l = l.count - vec_len l.spares
