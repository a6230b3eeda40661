use Rattle.std.proofs.Common.{◌≡◌, ◌<◌, ◌≤◌, ◌-◌, length}
use Rattle.std.specs.List.{HoldsAt}
use Rattle.std.specs.declared.cmp.Ordering.TheVariants.{Less}
use Rattle.testing_rules_model.specs.Unstable.{pair_order, pair_of}
use Rattle.testing_rules_facts.proofs.taken.place_from.Given as goal

-- the row before the place is below, if it was tried
abbrev pub invariant-tries : goal.invariant-tries
invariant-tries l =
    record {
      from : l.guess ≤ l.place;
      within : l.guess < l.place → l.place ≤ length l.rows;
      below : l.guess < l.place → HoldsAt (λ b. pair_order (pair_of b) (l.arch, l.name) ≡ Less) l.rows (l.place - 1);
    }

abbrev pub decreases-tries : goal.decreases-tries
decreases-tries l = length l.rows - l.place
