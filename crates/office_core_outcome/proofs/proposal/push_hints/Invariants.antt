use Rattle.std.proofs.Common.{◌≡◌, ◌++◌, ◌∷◌, [], List, ℕ, drop, string_bytes}
use Rattle.std.specs.List.{flat_map}
use Rattle.office_core_outcome.proofs.proposal.push_hints.Given as goal

-- the text so far, and what is left
abbrev pub invariant-hints : goal.invariant-hints
invariant-hints l =
    let lines : List (List ℕ) → List ℕ = flat_map (λ hint. hint ++ 10 ∷ []) in
    string_bytes l.text ++ lines (drop l.hint-index l.hints) ≡ string_bytes l.fn.text ++ lines l.hints
