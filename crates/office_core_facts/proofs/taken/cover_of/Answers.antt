use Rattle.std.proofs.Common.{◌≡◌, ◌+◌, List, [], ◌∷◌, drop, max, slice_index, sym, ap, ◌∙◌, arith}
use Rattle.std.proofs.lemmas.List.{drop_more, drop_all}
use Rattle.office_mail.specs.declared.message.RunOrder.{RunOrder}
use Rattle.office_mail.specs.Runs.{cover_of}
use Rattle.office_core_facts.proofs.CoverFacts.{cover_of-none, cover_of-more, max_of_three}
use Rattle.office_core_facts.proofs.taken.cover_of.Goals as goal

pub orders-preserved : goal.orders-preserved
orders-preserved c =
    let xs = c.args.orders.now in
    let i = c.orders.order-index in
    let s = c.args.sender in
    let item = c.order-item.result in
    let cut : drop i xs ≡ item ∷ drop (i + 1) xs = drop_more xs i item c.orders-test.true ∙ ap (λ (o : RunOrder). o ∷ drop (i + 1) xs) (sym c.order-item.is) in
    rw (c.greater-cover.ensures, c.stated_for.ensures)
    (max_of_three c.orders.cover (slice_index item.covers s) (cover_of (drop (i + 1) xs) s)
    ∙ ap (max c.orders.cover) (sym (cover_of-more item (drop (i + 1) xs) s) ∙ ap (λ (os : List RunOrder). cover_of os s) (sym cut))
    ∙ c.orders.invariant)

pub returns : goal.returns
returns c =
    let xs = c.args.orders.now in
    let i = c.orders.order-index in
    let s = c.args.sender in
    let rest : drop i xs ≡ [] = drop_all i xs (omega (arith, c.orders-test.false)) in
    let none : cover_of (drop i xs) s ≡ 0 = ap (λ (os : List RunOrder). cover_of os s) rest ∙ cover_of-none s in
    omega (arith, none, c.orders.invariant)
