use Rattle.std.proofs.Common.{arith, ◌∙◌, ap, ◌++◌, ◌≤◌, Some, None, cond, length, take}
use Rattle.std.proofs.lemmas.List.{take_all}
use Rattle.std.specs.List.{flat_map, list_any}
use Rattle.testing_rules_model.specs.declared.facts.HintIn.{HintIn}
use Rattle.testing_rules_excuses.specs.steps.BySource.{slot_at, is_among}
use Rattle.testing_rules_excuses.specs.steps.OwnHints.{is_for_all, started, parts_of, joined_with}
use Rattle.testing_rules_excuses.proofs.NewsGroups.{group_of}
use Rattle.testing_rules_excuses.proofs.HintGroups.{hint-more, joined-start}
use Rattle.testing_rules_excuses.proofs.own_hints.hints_by_source.Goals as goal

pub loop-hint-init : goal.loop-hint-init
loop-hint-init c = λ q.
    let among = is_among c.args.news.now q in
    c.in_ok-groups.ensures q
    ∙ ap (λ b. cond among (Some (started b)) None) c.are_all_out.ensures
    ∙ joined-start among (started (list_any (λ (h : HintIn). is_for_all h.hint) c.args.hints.now))

pub loop-hint-preserved : goal.loop-hint-preserved
loop-hint-preserved c = λ q.
    let hints = c.args.hints.now in
    let first = started (list_any (λ (h : HintIn). is_for_all h.hint) hints) in
    let old = slot_at c.loop-hint.groups q in
    hint-more (parts_of q) hints c.loop-hint.hint-index c.hint-item.result (omega arith) (is_among c.args.news.now q) first old (slot_at c.join_hint.new.groups q)
    (c.loop-hint.invariant q)
    (c.in_ok-join_hint.ensures q ∙ ap (λ (h : HintIn). joined_with (parts_of q h) old) c.hint-item.is)

pub returns : goal.returns
returns c = λ q among.
    let hints = c.args.hints.now in
    let first = started (list_any (λ (h : HintIn). is_for_all h.hint) hints) in
    let i = c.loop-hint.hint-index in
    let all : length hints ≤ i = omega arith in
    group_of (is_among c.args.news.now q) (slot_at c.loop-hint.groups q) (first ++ flat_map (parts_of q) (take i hints)) among (c.loop-hint.invariant q)
    ∙ ap (λ xs. first ++ flat_map (parts_of q) xs) (take_all i hints all)
