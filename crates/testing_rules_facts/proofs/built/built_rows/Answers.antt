use Rattle.std.proofs.Common.{◌≡◌, ◌∙◌, sym, ap, subst}
use Rattle.testing_rules_model.specs.FactOrder.{AreByPair}
use Rattle.testing_rules_model.specs.InOrder.{AreByKey}
use Rattle.testing_rules_model.specs.JudgedRows.{lent}
use Rattle.testing_rules_model.specs.Unstable.{built_rows}
use Rattle.testing_rules_facts.specs.steps.SourceFilter.{passing_builds}
use Rattle.testing_rules_facts.specs.declared.source_filter.SourceFilter.TheVariants.{Every}
use Rattle.testing_rules_items.proofs.Weaker.{if_ok_weaker}
use Rattle.testing_rules_facts.proofs.EveryPassing.{every_passing}
use Rattle.testing_rules_facts.proofs.built.built_rows.Goals as goal

pub returns-clause-rows : goal.returns-clause-rows
returns-clause-rows c =
    let archs = c.args.archs.now in
    let builds = c.args.builds.now in
    if_ok_weaker (λ rows. lent rows.items ≡ built_rows archs (passing_builds Every builds)) (λ rows. lent rows.items ≡ built_rows archs builds) c.rows_passing.result
    (λ rows is. is ∙ ap (built_rows archs) (every_passing builds)) c.rows_passing.ensures.rows

pub returns-clause-ordered : goal.returns-clause-ordered
returns-clause-ordered c =
    let builds = c.args.builds.now in
    if_ok_weaker (λ rows. AreByPair (passing_builds Every builds) → AreByKey (lent rows.items)) (λ rows. AreByPair builds → AreByKey (lent rows.items)) c.rows_passing.result
    (λ rows is order. is (subst AreByPair (sym (every_passing builds)) order)) c.rows_passing.ensures.ordered
