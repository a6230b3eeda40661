use Rattle.std.proofs.Common.{ℕ, List, ap, ◌∙◌}
use Rattle.std.specs.Borrow.{Bor}
use Rattle.testing_rules_items.specs.declared.item.HintItem.{HintItem}
use Rattle.office_mail_setup.proofs.Each.{shown_more}
use Rattle.office_mail.proofs.hints.names_of.Goals as goal

pub items-preserved : goal.items-preserved
items-preserved c =
    rw c.in_ok-push.ensures.items (shown_more (λ (n : Bor (List ℕ)). n.now) (λ (i : HintItem). i.name) c.items.names.items c.args.items.now c.items.item-index _ _ c.items-test.true c.items.invariant (c.as_str.ensures ∙ ap (λ (i : HintItem). i.name) c.item-item.is))
