use Rattle.std.proofs.Common.{map, Ok, ap, ◌∙◌}
use Rattle.deb_control.specs.Relations.{◌>>=◌}
use Rattle.testing_rules_items.specs.declared.item.HintItem.{HintItem}
use Rattle.testing_rules_items.specs.Distinct.{is_distinct}
use Rattle.office_mail.specs.Hints.{BadHint}
use Rattle.office_mail_setup.specs.WholeText.{needs}
use Rattle.office_mail.proofs.HintFacts.{group_is}
use Rattle.office_mail.proofs.hints.group_in.Goals as goal

pub returns-then-not-branch : goal.returns-then-not-branch
returns-then-not-branch c =
    group_is _ _ _ c.in_ok-items.ensures (c.in_ok-name_each_once.ensures ∙ ap (λ xs. is_distinct (map (λ (i : HintItem). i.name) xs)) c.as_slice.ensures)
    ∙ ap (λ b. needs b BadHint >>= λ each. Ok c.in_ok-items.items) c.if-not-branch.true

pub returns : goal.returns
returns c =
    group_is _ _ _ c.in_ok-items.ensures (c.in_ok-name_each_once.ensures ∙ ap (λ xs. is_distinct (map (λ (i : HintItem). i.name) xs)) c.as_slice.ensures)
    ∙ ap (λ b. needs b BadHint >>= λ each. Ok c.in_ok-items.items) c.if-not-branch.false
