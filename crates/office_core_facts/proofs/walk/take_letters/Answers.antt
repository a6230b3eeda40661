use Rattle.std.proofs.Common.{◌≡◌, ◌+◌, ◌++◌, ◌∷◌, [], List, take, sym, ap, subst, ◌∙◌, arith}
use Rattle.std.proofs.lemmas.List.{take_more, take_all}
use Rattle.office_store_keeper.specs.declared.values.Letter.{Letter}
use Rattle.office_core_facts.specs.steps.Chosen.{TookLetters}
use Rattle.office_core_facts.proofs.ChosenFacts.{letters_none, letters_then}
use Rattle.office_core_facts.proofs.walk.take_letters.Goals as goal

pub letters-init : goal.letters-init
letters-init c = letters_none c.args.choice c.args.setup.now c.args.sender c.args.facts.now

pub letters-preserved : goal.letters-preserved
letters-preserved c =
    let choice = c.args.choice in
    let setup = c.args.setup.now in
    let sender = c.args.sender in
    let letters : List Letter = c.args.letters.now in
    let i = c.letters.letter-index in
    let letter = c.letter-item.result in
    let more : take (i + 1) letters ≡ take i letters ++ letter ∷ [] = take_more letters i letter c.letters-test.true ∙ ap (λ (l : Letter). take i letters ++ l ∷ []) (sym c.letter-item.is) in
    subst (λ (ls : List Letter). TookLetters choice setup sender ls c.args.facts.now c.take_letter.new.facts) (sym more)
    (letters_then choice setup sender (take i letters) letter c.args.facts.now c.letters.facts c.take_letter.new.facts c.letters.invariant c.in_ok-take_letter.ensures)

pub returns : goal.returns
returns c =
    subst (λ (ls : List Letter). TookLetters c.args.choice c.args.setup.now c.args.sender ls c.args.facts.now c.letters.facts)
    (take_all c.letters.letter-index c.args.letters.now (omega (arith, c.letters-test.false))) c.letters.invariant
