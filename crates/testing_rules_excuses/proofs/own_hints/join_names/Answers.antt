use Rattle.std.proofs.Common.{arith, ◌∙◌, ap, ◌≤◌, length}
use Rattle.std.proofs.lemmas.List.{take_all}
use Rattle.std.specs.Str.{bytes_eq}
use Rattle.testing_rules_items.specs.Words.{Text}
use Rattle.testing_rules_excuses.specs.steps.BySource.{slot_at, joined_by}
use Rattle.testing_rules_excuses.specs.steps.OwnHints.{named_part, named_parts, joined_with}
use Rattle.testing_rules_excuses.proofs.HintGroups.{parts-more, joined-nothing}
use Rattle.testing_rules_excuses.proofs.own_hints.join_names.Goals as goal

pub loop-name-init : goal.loop-name-init
loop-name-init c = λ q. joined-nothing (slot_at c.args.groups.now q)

pub loop-name-preserved : goal.loop-name-preserved
loop-name-preserved c = λ q.
    let names = c.args.names.now in
    let h = c.args.hint.now in
    let old = slot_at c.loop-name.groups q in
    parts-more (bytes_eq q) (named_part h) names c.loop-name.name-index c.name-item.result (omega arith) (slot_at c.args.groups.now q) old (slot_at c.join_name.new.groups q)
    (c.loop-name.invariant q)
    (c.in_ok-join_name.ensures q ∙ ap (λ (n : Text). joined_by (bytes_eq q n) (named_part h n) old) c.name-item.is)

pub returns : goal.returns
returns c = λ q.
    let names = c.args.names.now in
    let i = c.loop-name.name-index in
    let all : length names ≤ i = omega arith in
    c.loop-name.invariant q ∙ ap (λ xs. joined_with (named_parts q c.args.hint.now xs) (slot_at c.args.groups.now q)) (take_all i names all)
