use Rattle.std.proofs.Common.{sym, ◌∙◌}
use Rattle.office_store_tables.proofs.SchemaLemmas.{each_before}
use Rattle.office_store.proofs.openings.prepare.Goals as goal

pub returns-then-branch-2-clause-six : goal.returns-then-branch-2-clause-six
returns-then-branch-2-clause-six g c bad = each_before _ (sym c.schema-3.ensures.value ∙ c.in_ok-has_tables_before.ensures.0 c.if-branch-2.true)
