use Rattle.std.proofs.Common.{◌≡◌, ◌+◌, List, ◌∷◌, drop, sym, ap, ◌∙◌, arith}
use Rattle.std.proofs.lemmas.List.{drop_more, drop_all}
use Rattle.office_store_keeper.specs.declared.values.Letter.{Letter}
use Rattle.office_core_orders.proofs.LetterFacts.{left_more, left_missed, left_none}
use Rattle.office_core_orders.proofs.orders.last_in_line.Goals as goal
use Rattle.office_core_orders.proofs.orders.last_in_line.Goals.{then-last-end-via-then-last-end, then-last-end-via-else-last-end+then-letter-last}

pub returns-then-last-end-clause-goes_on : goal.returns-then-last-end-clause-goes_on
returns-then-last-end-clause-goes_on c = λ kept sender e.
    let xs : List Letter = c.args.letters.now in
    let i = c.letters.letter-index in
    let x = c.letter-item.result in
    let cut : drop i xs ≡ x ∷ drop (i + 1) xs = drop_more xs i x c.letters-test.true ∙ ap (λ (l : Letter). l ∷ drop (i + 1) xs) (sym c.letter-item.is) in
    left_missed kept sender c.args.number c.letters.last c.args.end x (drop i xs) (drop (i + 1) xs) cut (elim c.then-last-end.branch [
      | then-last-end-via-then-last-end w ↦ λ below same. absurd (omega (arith, w.if-last-end.true, below))
      | then-last-end-via-else-last-end+then-letter-last w ↦ λ below same. w.if-letter-last.true same
    ]) (c.letters.invariant.left kept sender e)

pub letters-preserved : goal.letters-preserved
letters-preserved c =
    let xs : List Letter = c.args.letters.now in
    let i = c.letters.letter-index in
    let x = c.letter-item.result in
    let cut : drop i xs ≡ x ∷ drop (i + 1) xs = drop_more xs i x c.letters-test.true ∙ ap (λ (l : Letter). l ∷ drop (i + 1) xs) (sym c.letter-item.is) in
    record {
      within = omega (arith, c.if-last-end.false);
      left = λ kept sender e. left_more kept sender c.args.number c.letters.last c.args.end x (drop i xs) (drop (i + 1) xs) (omega (arith, c.if-last-end.false)) cut c.if-letter-last.false (c.letters.invariant.left kept sender e);
    }

pub returns-clause-goes_on : goal.returns-clause-goes_on
returns-clause-goes_on c = λ kept sender e.
    left_none kept sender c.args.number c.letters.last c.args.end (drop c.letters.letter-index c.args.letters.now) (drop_all c.letters.letter-index c.args.letters.now (omega (arith, c.letters-test.false))) (c.letters.invariant.left kept sender e)
