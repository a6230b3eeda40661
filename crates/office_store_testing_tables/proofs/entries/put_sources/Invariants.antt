use Rattle.std.proofs.Common.{◌≡◌}
use Rattle.std.specs.Vec.Iter.{into_iter_items}
use Rattle.office_store_testing_tables.specs.steps.TableContent.{put_all_sources}
use Rattle.office_store_testing_tables.proofs.entries.put_sources.Given as goal

-- with those that are left, all are put in
abbrev pub invariant-sources : goal.invariant-sources
invariant-sources l = record {
  so_far : put_all_sources (into_iter_items l.source-iterator) l.testing.sources ≡ put_all_sources l.fn.sources.items l.fn.testing.sources;
  rows : l.testing.rows ≡ l.fn.testing.rows;
}
