use Rattle.std.proofs.Common.{rules, ◌≡◌, ◌++◌, ◌∷◌, [], List, ℕ, ap, ◌∙◌}
use Rattle.std.specs.Prelude.{codes, decimal}
use Rattle.office_core_replies.specs.Replies.{name_at}
use Rattle.office_core_facts.specs.Seen.{release}
use Rattle.office_core_outcome.specs.Hints.{hint_text}
use Rattle.office_core_outcome.proofs.HintFacts.{in_pieces}
use Rattle.office_core_outcome.proofs.hints.hint_letter.Goals as goal

pub returns : goal.returns
unfolding hint_text
returns c =
    let setup = c.args.setup.now in
    let number : List ℕ = decimal c.args.number in
    let hint : List ℕ = c.args.hint.now in
    let text : c.of.result ≡ c.in_ok-text.text.bytes.items = search rules in
    let name : c.name_at-name.result.now ≡ name_at setup (release setup) = c.name_at-name.ensures ∙ ap (name_at setup) c.release_place.ensures in
    let said : c.in_ok-text.text.bytes.items ≡ hint_text setup c.args.number hint =
    c.in_ok-text.ensures.ok
    ∙ in_pieces (codes "From: ") c.name_at-name.result.now (10 ∷ codes "Number: ") number (10 ∷ codes "Kind: hint") (10 ∷ codes "Hint: ") hint (10 ∷ [])
    ∙ ap (λ (n : List ℕ). codes "From: " ++ n ++ 10 ∷ codes "Number: " ++ number ++ 10 ∷ codes "Kind: hint" ++ 10 ∷ codes "Hint: " ++ hint ++ 10 ∷ []) name in
    ap (λ (t : List ℕ). record { number = c.args.number; text = t }) (text ∙ said)
