use Rattle.std.proofs.Common.{◌∙◌}
use Rattle.std.proofs.lemmas.List.Filters.{dedup_is}
use Rattle.testing_rules_model.proofs.FactKinds.{derived_test}
use Rattle.office_store_keeper.proofs.FactSets.{rows_in-dedup}
use Rattle.office_store_keeper.proofs.fact_rows.rows_in_order.Goals as goal

pub returns : goal.returns
returns c =
    c.of.ensures
    ∙ rows_in-dedup _ derived_test c.args.rows.now c.in_ok-once.once.items c.dedup.new.self.items c.in_ok-once.ensures.same c.in_ok-once.ensures.order
    (dedup_is _ _ _ c.dedup.ensures.filtered)
