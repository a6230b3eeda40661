use Rattle.std.proofs.Common.{◌∙◌, ap, ◌++◌, length, replicate, false}
use Rattle.testing_rules_model.specs.JudgedRows.{lent}
use Rattle.testing_rules_suites.specs.Present.{CarriedState}
use Rattle.testing_rules_live.proofs.pool_suites.PoolSuites.new.Goals as goal

pub returns-clause-rows : goal.returns-clause-rows
returns-clause-rows c =
    let rows = c.args.kept.rows in
    ap (λ (s : CarriedState). s.rows) c.in_ok-kept.ensures ∙ ap (λ rs. rows ++ lent rs) c.deref.ensures.value ∙ ap (λ rs. rows ++ rs) c.in_ok-wanted.ensures

pub returns-clause-stands : goal.returns-clause-stands
returns-clause-stands c =
    let stands = c.args.kept.stands in
    ap (λ (s : CarriedState). s.stands) c.in_ok-kept.ensures ∙ ap (λ rs. stands ++ replicate (length (lent rs)) false) c.deref.ensures.value
    ∙ ap (λ rs. stands ++ replicate (length rs) false) c.in_ok-wanted.ensures
