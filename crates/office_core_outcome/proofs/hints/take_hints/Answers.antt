use Rattle.std.proofs.Common.{◌≡◌, ◌+◌, ◌++◌, ◌∷◌, [], ℕ, List, None, drop, sym, ap, ◌∙◌, arith}
use Rattle.office_core_outcome.specs.Hints.{hint_letters, hint_refusal}
use Rattle.office_core_outcome.proofs.HintFacts.{hint_next, letters_all, letters_later, refused_here, refused_later, refused_none}
use Rattle.office_core_outcome.proofs.hints.take_hints.Goals as goal

pub hints-preserved : goal.hints-preserved
hints-preserved c =
    let setup = c.args.setup.now in
    let hints : List (List ℕ) = c.args.hints.now in
    let i = c.hints.hint-index in
    let hint : List ℕ = c.hint-item.result in
    let so = c.hints.invariant in
    let taken = c.in_ok-fault.ensures in
    let last = c.hints.last in
    let at : drop i hints ≡ hint ∷ drop (i + 1) hints = hint_next hints i hint c.hints-test.true c.hint-item.is in
    let none : None ≡ hint_refusal setup (last + 1) hint = sym c.in_default.is ∙ taken.refusal ∙ ap (hint_refusal setup (last + 1)) c.as_str.ensures in
    let are : c.take_hint.new.letters.items ≡ c.hints.letters.items ++ hint_letters setup last (hint ∷ []) = taken.letters c.in_default.is ∙ ap (λ (h : List ℕ). c.hints.letters.items ++ hint_letters setup last (h ∷ [])) c.as_str.ensures in
    record {
      place = ap (λ (n : ℕ). n + 1) so.place;
      refused = refused_later setup last c.hints.place i hints hint at none ∙ so.refused;
      letters = letters_later setup last i hints hint c.hints.letters.items c.take_hint.new.letters.items at are ∙ so.letters;
    }

pub returns-in-Some-clause-refused : goal.returns-in-Some-clause-refused
returns-in-Some-clause-refused c =
    let setup = c.args.setup.now in
    let hints : List (List ℕ) = c.args.hints.now in
    let i = c.hints.hint-index in
    let hint : List ℕ = c.hint-item.result in
    let last = c.hints.last in
    let at : drop i hints ≡ hint ∷ drop (i + 1) hints = hint_next hints i hint c.hints-test.true c.hint-item.is in
    refused_here setup last c.hints.place i hints hint c.in-Some.fault at (sym c.in-Some.is ∙ c.in_ok-fault.ensures.refusal ∙ ap (hint_refusal setup (last + 1)) c.as_str.ensures) ∙ c.hints.invariant.refused

pub returns-clause-refused : goal.returns-clause-refused
returns-clause-refused c =
    let hints : List (List ℕ) = c.args.hints.now in
    refused_none c.args.setup.now c.hints.last c.hints.place c.hints.hint-index hints (omega (arith, c.hints-test.false)) ∙ c.hints.invariant.refused

pub returns-clause-letters : goal.returns-clause-letters
returns-clause-letters c = λ none.
    let hints : List (List ℕ) = c.args.hints.now in
    letters_all c.args.setup.now c.hints.last c.hints.hint-index hints c.hints.letters.items (omega (arith, c.hints-test.false)) ∙ c.hints.invariant.letters
