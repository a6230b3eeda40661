use Rattle.std.proofs.Common.{refl, sym, ap, ◌∙◌, arith}
use Rattle.std.specs.Vec.Iter.{into_iter_items}
use Rattle.std.proofs.lemmas.List.{nil_from_length}
use Rattle.testing_rules_model.specs.Suite.{Suite}
use Rattle.office_store_testing_tables.specs.steps.TableContent.{put_all_sources}
use Rattle.office_store_testing_tables.proofs.EntryLists.{suite_of}
use Rattle.office_store_testing_tables.proofs.entries.put_sources.Goals as goal

pub sources-init : goal.sources-init
sources-init c = record {
  so_far = ap (λ xs. put_all_sources xs c.args.testing.now.sources) c.into_iter-source-iterator.ensures.into_iter_gives.0;
  rows = refl;
}

pub sources-preserved : goal.sources-preserved
sources-preserved c =
    let put = c.in_ok-set_source.ensures.ok in
    record {
      so_far = ap (λ (t : Suite). put_all_sources (into_iter_items c.next.new.self) t.sources) put ∙ ap (λ xs. put_all_sources xs c.sources.testing.sources) (sym c.in-Some.ensures.steps.0) ∙ c.sources.invariant.so_far;
      rows = ap (λ (t : Suite). t.rows) put ∙ c.sources.invariant.rows;
    }

pub returns : goal.returns
returns c =
    let left = c.sources.source-iterator in
    let none = nil_from_length (into_iter_items left) (omega (arith, left.rest.ok.0, c.in-None.ensures.steps.0)) in
    record { ok = suite_of c.sources.testing _ _ (ap (λ xs. put_all_sources xs c.sources.testing.sources) (sym none) ∙ c.sources.invariant.so_far) c.sources.invariant.rows }
