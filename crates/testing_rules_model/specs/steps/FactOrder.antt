-- Steps beside `specs/FactOrder.antt`.
use Rattle.std.specs.Prelude.{List, map}
use Rattle.std.specs.List.Sorted.{IsStrictlySortedBy}
use Rattle.std.specs.Ordering.{nat_cmp}
use Rattle.testing_rules_model.specs.declared.facts.UploadIn.{UploadIn}
use Rattle.testing_rules_model.specs.declared.facts.BuildIn.{BuildIn}
use Rattle.testing_rules_model.specs.declared.facts.DropIn.{DropIn}
use Rattle.testing_rules_model.specs.declared.facts.BugIn.{BugIn}
use Rattle.testing_rules_model.specs.declared.suite.RowIn.{RowIn}
use Rattle.testing_rules_model.specs.InOrder.{AreByKey}
use Rattle.testing_rules_model.specs.Unstable.{pair_order, drop_pair}
use Rattle.testing_rules_model.specs.FactOrder.{AreBySource, AreByPair}

-- drops by architecture and then in byte order of their names, each pair once
abbrev pub AreDropsByPair : List DropIn → Type 0
AreDropsByPair drops = IsStrictlySortedBy pair_order (map drop_pair drops)

-- states of bugs by number, each number once
abbrev pub AreByNumber : List BugIn → Type 0
AreByNumber bugs = IsStrictlySortedBy nat_cmp (map (λ b. b.bug) bugs)

-- unstable's sources and rows, the greatest drops and the states of the bugs
pub record IsFactOrder (sources : List UploadIn) (rows : List BuildIn) (drops : List DropIn) (bugs : List BugIn) : Type 0 where
  pub by_source : AreBySource sources
  pub by_pair : AreByPair rows
  pub drops_by_pair : AreDropsByPair drops
  pub by_number : AreByNumber bugs

-- the order of unstable's sources and rows that moves use
pub record IsUnstableOrder (sources : List UploadIn) (rows : List RowIn) : Type 0 where
  pub by_source : AreBySource sources
  pub by_key : AreByKey rows
