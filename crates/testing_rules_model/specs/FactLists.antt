-- The content of facts, and the rows that came and left since they were last kept.
use Rattle.std.specs.Prelude.{List, [], Option, None}
use Rattle.testing_rules_model.specs.declared.fact_row.FactRow.{FactRow}
use Rattle.testing_rules_model.specs.declared.facts.UploadIn.{UploadIn}
use Rattle.testing_rules_model.specs.declared.facts.BuildIn.{BuildIn}
use Rattle.testing_rules_model.specs.declared.facts.DropIn.{DropIn}
use Rattle.testing_rules_model.specs.declared.facts.BugIn.{BugIn}
use Rattle.testing_rules_model.specs.declared.facts.HintIn.{HintIn}
use Rattle.testing_rules_model.specs.declared.facts.UnhintIn.{UnhintIn}
use Rattle.testing_rules_model.specs.declared.facts.DelaysIn.{DelaysIn}

-- facts by kind, and the rows that came and left
pub record FactLists : Type 0 where
  pub sources : List UploadIn
  pub uploads : List UploadIn
  pub rows : List BuildIn
  pub drops : List DropIn
  pub bugs : List BugIn
  pub hints : List HintIn
  pub unhints : List UnhintIn
  pub delays : Option DelaysIn
  pub came : List FactRow
  pub left : List FactRow

-- no facts; no row came or left
abbrev pub no_facts : FactLists
no_facts = record { sources = []; uploads = []; rows = []; drops = []; bugs = []; hints = []; unhints = []; delays = None; came = []; left = [] }
