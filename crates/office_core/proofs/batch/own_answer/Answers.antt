use Rattle.std.proofs.Common.{◌≡◌, ◌+◌, ◌++◌, ◌∷◌, [], List, Some, Ok, Err, ℕ, take, drop, sym, ap, ◌∙◌}
use Rattle.std.specs.Prelude.{bytes_eq, if◌then◌else◌}
use Rattle.std.specs.Option.{option_map}
use Rattle.std.proofs.lemmas.List.{take_more, take-append-drop}
use Rattle.office_store_keeper.specs.declared.values.NewLetter.{NewLetter}
use Rattle.office_core_replies.specs.declared.faults.DeliverFault.TheVariants.{OtherText}
use Rattle.office_core.specs.steps.GatherSteps.{own_text}
use Rattle.office_core.proofs.GatherFacts.{own_less, own_more}
use Rattle.office_core.proofs.batch.own_answer.Goals as goal
use Rattle.office_core.proofs.batch.own_answer.Goals.{else-letter-held-via-then-letter-held+else-letter-held-2, else-letter-held-via-else-letter-held}

pub returns-then-letter-held-2 : goal.returns-then-letter-held-2
returns-then-letter-held-2 c =
    let letters : List NewLetter = c.args.letters.now in
    let i = c.letters.letter-index in
    let letter = c.letter-item.result in
    let more : take (i + 1) letters ≡ take i letters ++ letter ∷ [] = take_more letters i letter c.letters-test.true ∙ ap (λ (l : NewLetter). take i letters ++ l ∷ []) (sym c.letter-item.is) in
    let found : own_text letters c.args.held.sender c.args.held.number ≡ Some letter.text =
    ap (λ (l : List NewLetter). own_text l c.args.held.sender c.args.held.number) (sym (take-append-drop (i + 1) letters) ∙ ap (λ (l : List NewLetter). l ++ drop (i + 1) letters) more)
    ∙ own_more (take i letters) (drop (i + 1) letters) letter c.args.held.sender c.args.held.number c.letters.invariant.none c.if-letter-held.true c.if-letter-held-2.true in
    ap Some c.compare.ensures ∙ sym (ap (option_map (λ (k : List ℕ). if bytes_eq k c.args.text.now then Ok c.args.held else Err OtherText)) found)

pub letters-preserved : goal.letters-preserved
letters-preserved c =
    let letters : List NewLetter = c.args.letters.now in
    let i = c.letters.letter-index in
    let letter = c.letter-item.result in
    let more : take (i + 1) letters ≡ take i letters ++ letter ∷ [] = take_more letters i letter c.letters-test.true ∙ ap (λ (l : NewLetter). take i letters ++ l ∷ []) (sym c.letter-item.is) in
    let less : (letter.sender ≡ c.args.held.sender → letter.number ≡ c.args.held.number → ⊥) = elim c.else-letter-held.branch [
      | else-letter-held-via-then-letter-held+else-letter-held-2 w ↦ λ s n. w.if-letter-held-2.false n
      | else-letter-held-via-else-letter-held w ↦ λ s n. w.if-letter-held.false s
    ] in
    record { none = rw more (own_less (take i letters) letter c.args.held.sender c.args.held.number c.letters.invariant.none less) }
