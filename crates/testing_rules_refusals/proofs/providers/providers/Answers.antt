use Rattle.std.proofs.Common.{◌≡◌, ◌∙◌, ap, subst, filter}
use Rattle.std.specs.Prelude.{IfOk}
use Rattle.testing_rules_model.specs.JudgedRows.{lent}
use Rattle.testing_rules_refusals.specs.Needs.{is_provider}
use Rattle.testing_rules_refusals.proofs.LineProviders.{providers_named}
use Rattle.testing_rules_refusals.proofs.providers.providers.Goals as goal

pub returns : goal.returns
returns c =
    let rows = lent c.args.rows.now in
    let steps = c.args.steps.now in
    let clause = c.args.clause.now in
    let same = providers_named rows steps c.args.noted.now c.requires clause _ _ c.in_ok-numbers_named.ensures c.in_order-named.ensures.order c.in_order-named.ensures.same in
    let exact = ap (filter (is_provider rows steps clause)) c.deref.ensures.value ∙ same in
    subst (λ ks. IfOk c.providers_among.result (λ found. found.items ≡ ks)) exact c.providers_among.ensures
