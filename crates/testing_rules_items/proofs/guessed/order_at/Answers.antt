use Rattle.std.proofs.Common.{sym, ap, ◌∙◌}
use Rattle.std.proofs.lemmas.List.{get_or_default}
use Rattle.std.specs.Prelude.{[], ◌∷◌}
use Rattle.testing_rules_items.proofs.guessed.order_at.Goals as goal

pub returns-in-Some-clause-at : goal.returns-in-Some-clause-at
returns-in-Some-clause-at g c = λ within ord by d.
    let called = (g.met.F.FnMut.1.post_iff _ _ _).0 c.order.ensures in
    let item = get_or_default c.args.items.now c.args.place d c.in-Some.item.now within ∙ sym c.in-Some.ensures.lookup.1 in
    ap ord item ∙ sym (by.at (_ ∷ []) _ _ called.1).0
