use Rattle.std.proofs.Common.{refl, sym, ap, ◌∙◌, arith}
use Rattle.std.specs.Vec.Iter.{into_iter_items}
use Rattle.std.proofs.lemmas.List.{nil_from_length}
use Rattle.testing_rules_model.specs.Suite.{Suite}
use Rattle.office_store_testing_tables.specs.steps.TableContent.{put_all_rows}
use Rattle.office_store_testing_tables.proofs.EntryLists.{suite_of}
use Rattle.office_store_testing_tables.proofs.entries.put_rows.Goals as goal

pub rows-init : goal.rows-init
rows-init c = record {
  so_far = ap (λ xs. put_all_rows xs c.args.testing.now.rows) c.into_iter-row-iterator.ensures.into_iter_gives.0;
  sources = refl;
}

pub rows-preserved : goal.rows-preserved
rows-preserved c =
    let put = c.in_ok-set_row.ensures.ok in
    record {
      so_far = ap (λ (t : Suite). put_all_rows (into_iter_items c.next.new.self) t.rows) put ∙ ap (λ xs. put_all_rows xs c.rows.testing.rows) (sym c.in-Some.ensures.steps.0) ∙ c.rows.invariant.so_far;
      sources = ap (λ (t : Suite). t.sources) put ∙ c.rows.invariant.sources;
    }

pub returns : goal.returns
returns c =
    let left = c.rows.row-iterator in
    let none = nil_from_length (into_iter_items left) (omega (arith, left.rest.ok.0, c.in-None.ensures.steps.0)) in
    record { ok = suite_of c.rows.testing _ _ c.rows.invariant.sources (ap (λ xs. put_all_rows xs c.rows.testing.rows) (sym none) ∙ c.rows.invariant.so_far) }
