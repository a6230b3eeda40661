use Rattle.std.proofs.Common.{ℕ, ◌<◌, ◌≤◌, get_or, take}
use Rattle.testing_rules_model.specs.declared.fact_row.FactRow.{FactRow}
use Rattle.testing_rules_model.specs.FactLists.{FactLists}
use Rattle.testing_rules_model.specs.Covered.{Covered}
use Rattle.office_core_facts.specs.steps.Taking.{HavePutBack, IsItemAt}
use Rattle.office_core_facts.proofs.restored.put_facts.Given as goal

abbrev pub invariant-rows : goal.invariant-rows
invariant-rows l = record {
  from : l.start ≤ l.place;
  back : (s : Covered) (first : FactLists) → ((k : ℕ) (d : FactRow) → l.start ≤ k → k < l.end → IsItemAt s (get_or l.rows k d).sender (get_or l.rows k d).number l.item)
      → HavePutBack s (take l.start l.rows) first l.fn.facts → HavePutBack s (take l.place l.rows) first l.facts;
}
