use Rattle.std.proofs.Common.{sym, ap, ◌∙◌, arith, ◌+◌, ◌∷◌, [], ◌++◌}
use Rattle.std.specs.Vec.Iter.{into_iter_items}
use Rattle.std.proofs.lemmas.List.{append_assoc, append-nil, nil_from_length}
use Rattle.testing_rules_model.specs.Covered.{placed_from}
use Rattle.testing_rules_fact_order.specs.steps.Entries.{placed_at}
use Rattle.testing_rules_fact_order.proofs.entry.placed.Goals as goal

pub binaries-init : goal.binaries-init
binaries-init c =
    ap (λ xs. xs ++ placed_from 1 c.args.sender c.args.number (into_iter_items c.into_iter-binary-iterator.result)) c.in_ok-builds.ensures.items
    ∙ ap (placed_from 1 c.args.sender c.args.number) c.into_iter-binary-iterator.ensures.into_iter_gives.0

pub binaries-preserved : goal.binaries-preserved
binaries-preserved c =
    let n = c.args.sender in
    let k = c.args.number in
    let rest = into_iter_items c.next.new.self in
    let so_far = c.binaries.builds.items in
    let p = c.binaries.place in
    let here = ap (λ xs. so_far ++ placed_from p n k xs) c.in-Some.ensures.steps.0 in
    ap (λ q. c.push.new.self.items ++ placed_from q n k rest) c.in_ok-place.ensures
    ∙ ap (λ xs. xs ++ placed_from (p + 1) n k rest) c.in_ok-push.ensures.items
    ∙ ap (λ b. (so_far ++ placed_at n k b p ∷ []) ++ placed_from (p + 1) n k rest) c.in_ok-of.ensures
    ∙ append_assoc so_far (placed_at n k c.in-Some.binary p ∷ []) (placed_from (p + 1) n k rest)
    ∙ sym here
    ∙ c.binaries.invariant

pub returns : goal.returns
returns c =
    let n = c.args.sender in
    let k = c.args.number in
    let left = c.binaries.binary-iterator in
    let none = nil_from_length (into_iter_items left) (omega (arith, left.rest.ok.0, c.in-None.ensures.steps.0)) in
    sym (append-nil c.binaries.builds.items)
    ∙ ap (λ xs. c.binaries.builds.items ++ placed_from c.binaries.place n k xs) (sym none)
    ∙ c.binaries.invariant
