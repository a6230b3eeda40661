use Rattle.std.proofs.Common.{List, ◌∷◌, Result, subst, ap, ◌∙◌}
use Rattle.deb_control.specs.Relations.{is_bar}
use Rattle.deb_control.specs.steps.RelationAnswers.{Gives}
use Rattle.deb_control.specs.declared.fault.RelationFault.{RelationFault}
use Rattle.deb_control.specs.declared.relation.Alternative.{Alternative}
use Rattle.deb_control.proofs.Alike.{one_alternative}
use Rattle.deb_control.proofs.Each.{items_left}
use Rattle.deb_control.proofs.grammar.read_clause.Goals as goal

pub returns-in_default-None : goal.returns-in_default-None
returns-in_default-None c =
    let only = c.next_item.result.0.now in
    let cut = c.next_item.ensures.items ∙ ap (λ rest. only ∷ items_left is_bar rest) c.in_default-None.is-1 in
    subst (λ (said : Result (List Alternative) RelationFault). Gives c.read_only_one.result said) (one_alternative c.args.item.now only cut) c.read_only_one.ensures
