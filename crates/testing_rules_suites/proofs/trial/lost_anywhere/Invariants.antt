use Rattle.std.proofs.Common.{◌≡◌, ℕ, Bool, List, Option, ◌-◌}
use Rattle.std.specs.List.{filter_map, range_with_len}
use Rattle.testing_rules_model.specs.Moves.{first_of}
use Rattle.testing_rules_suites.specs.steps.PresentSteps.{AreSuites}
use Rattle.testing_rules_suites.specs.steps.Tried.{told_on, first_told, Tells}
use Rattle.testing_rules_items.specs.Words.{Text}
use Rattle.testing_rules_suites.proofs.trial.lost_anywhere.Given as goal

-- none before this architecture
abbrev pub invariant-loop-arch : goal.invariant-loop-arch
invariant-loop-arch l = record {
  same : l.suites.items ≡ l.fn.suites.items;
  left : (stands : List Bool) (tells : ℕ → Option Text) → AreSuites l.pool stands l.fn.suites.items → Tells l.pool stands l.change.leaving.items l.change.coming.items tells
      → first_of (filter_map (told_on tells) (range_with_len l.arch (l.archs - l.arch))) ≡ first_told l.archs tells;
}
