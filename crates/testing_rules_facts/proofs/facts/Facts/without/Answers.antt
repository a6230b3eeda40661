use Rattle.std.proofs.Common.{List, [], sym, ap, ◌∙◌, subst}
use Rattle.testing_rules_model.specs.declared.fact_row.FactRow.{FactRow}
use Rattle.testing_rules_model.specs.FactLists.{FactLists, no_facts}
use Rattle.testing_rules_model.specs.Tells.{Tells}
use Rattle.testing_rules_facts.proofs.Saying.{none_tell}
use Rattle.testing_rules_facts.proofs.facts.Facts.without.Goals as goal

pub returns-clause-tells : goal.returns-clause-tells
returns-clause-tells c =
    let log = c.in_ok-of_left.field-0 in
    let became =
    c.of_log.ensures ∙ ap (λ (came : List FactRow). record no_facts { came = came; left = log.left.items }) c.in_ok-of_left.ensures.came
    ∙ ap (λ (left : List FactRow). record no_facts { left = left }) c.in_ok-of_left.ensures.left in
    subst (λ (f : FactLists). Tells f []) (sym became) (none_tell c.args.rows.now)
