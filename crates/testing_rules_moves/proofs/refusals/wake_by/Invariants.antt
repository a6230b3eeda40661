use Rattle.std.proofs.Common.{◌≡◌, ◌++◌, false, take}
use Rattle.std.specs.List.{flat_map}
use Rattle.testing_install.specs.Among.{with_all}
use Rattle.testing_install.specs.Index.{places_at}
use Rattle.testing_rules_moves.proofs.refusals.wake_by.Given as goal

-- those at the names so far
abbrev pub invariant-loop-provision : goal.invariant-loop-provision
invariant-loop-provision l =
    l.flags.items ≡ with_all false (places_at l.noted l.binary.name ++ flat_map (λ p. places_at l.noted p.name) (take l.provision-index l.binary.provides)) l.fn.flags.items
