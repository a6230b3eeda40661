use Rattle.std.proofs.Common.{arith, ◌∙◌, ap, ◌≤◌, length}
use Rattle.std.proofs.lemmas.List.{take_all}
use Rattle.std.specs.Str.{bytes_eq}
use Rattle.testing_rules_items.specs.declared.item.HintItem.{HintItem}
use Rattle.testing_rules_excuses.specs.steps.BySource.{slot_at, joined_by}
use Rattle.testing_rules_excuses.specs.steps.OwnHints.{item_part, item_parts, joined_with}
use Rattle.testing_rules_excuses.proofs.HintGroups.{parts-more, joined-nothing}
use Rattle.testing_rules_excuses.proofs.own_hints.join_items.Goals as goal

pub loop-item-init : goal.loop-item-init
loop-item-init c = λ q. joined-nothing (slot_at c.args.groups.now q)

pub loop-item-preserved : goal.loop-item-preserved
loop-item-preserved c = λ q.
    let items = c.args.items.now in
    let h = c.args.hint.now in
    let wish = c.args.wish in
    let own = λ (i : HintItem). bytes_eq q i.name in
    let old = slot_at c.loop-item.groups q in
    parts-more own (item_part h wish) items c.loop-item.item-index c.item-item.result (omega arith) (slot_at c.args.groups.now q) old (slot_at c.join_item.new.groups q)
    (c.loop-item.invariant q)
    (c.in_ok-join_item.ensures q ∙ ap (λ (i : HintItem). joined_by (own i) (item_part h wish i) old) c.item-item.is)

pub returns : goal.returns
returns c = λ q.
    let items = c.args.items.now in
    let i = c.loop-item.item-index in
    let all : length items ≤ i = omega arith in
    c.loop-item.invariant q ∙ ap (λ xs. joined_with (item_parts q c.args.hint.now c.args.wish xs) (slot_at c.args.groups.now q)) (take_all i items all)
