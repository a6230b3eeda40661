-- The order in which facts keep hints and unhints. This office decides to keep facts.
use Rattle.std.specs.Prelude.{List}
use Rattle.std.specs.List.Sorted.{IsStrictlySortedBy}
use Rattle.testing_rules_model.specs.declared.facts.HintIn.{HintIn}
use Rattle.testing_rules_model.specs.declared.facts.UnhintIn.{UnhintIn}
use Rattle.testing_rules_model.specs.Unstable.{hint_order, unhint_order}

-- hints by number, then by sender; each pair once
abbrev pub AreHintsByNumber : List HintIn → Type 0
AreHintsByNumber hints = IsStrictlySortedBy hint_order hints

-- unhints in the same order
abbrev pub AreUnhintsByNumber : List UnhintIn → Type 0
AreUnhintsByNumber unhints = IsStrictlySortedBy unhint_order unhints
