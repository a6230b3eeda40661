use Rattle.std.proofs.Common.{◌-◌, ◌≤◌, get_or, take}
use Rattle.testing_rules_model.specs.declared.fact_row.FactRow.{FactRow}
use Rattle.testing_rules_model.specs.FactLists.{FactLists}
use Rattle.office_mail.specs.Kept.{Kept}
use Rattle.office_core_facts.specs.Known.{said_all}
use Rattle.office_core_facts.specs.steps.Taking.{AreLettersOf, HavePutBack}
use Rattle.office_core_facts.proofs.restored.put_letters.Given as goal

abbrev pub invariant-messages : goal.invariant-messages
invariant-messages l = record {
  from : l.block.start ≤ l.place;
  within : l.place ≤ l.block.end;
  back : (kept : Kept) (d : FactRow) (first : FactLists) → AreLettersOf kept (get_or l.block.rows.now l.block.start d).sender l.letters
      → HavePutBack (said_all l.setup kept) (take l.block.start l.block.rows.now) first l.fn.facts → HavePutBack (said_all l.setup kept) (take l.place l.block.rows.now) first l.facts;
}

abbrev pub decreases-messages : goal.decreases-messages
decreases-messages l = l.block.end - l.place
