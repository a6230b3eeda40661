use Rattle.std.proofs.Common.{◌≡◌}
use Rattle.std.specs.Vec.Iter.{into_iter_items}
use Rattle.office_store_testing_tables.specs.steps.TableContent.{put_all_rows}
use Rattle.office_store_testing_tables.proofs.entries.put_rows.Given as goal

-- with those that are left, all are put in
abbrev pub invariant-rows : goal.invariant-rows
invariant-rows l = record {
  so_far : put_all_rows (into_iter_items l.row-iterator) l.testing.rows ≡ put_all_rows l.fn.rows.items l.fn.testing.rows;
  sources : l.testing.sources ≡ l.fn.testing.sources;
}
