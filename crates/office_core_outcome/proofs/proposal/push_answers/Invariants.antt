use Rattle.std.proofs.Common.{◌≡◌, ◌++◌, [], List, Option, ℕ, drop, string_bytes}
use Rattle.std.specs.Prelude.{unwrap_or}
use Rattle.std.specs.List.{flat_map}
use Rattle.office_core_outcome.proofs.proposal.push_answers.Given as goal

-- the text so far, and what is left
abbrev pub invariant-sources : goal.invariant-sources
invariant-sources l =
    let texts : List (Option (List ℕ)) → List ℕ = flat_map (λ answer. unwrap_or answer []) in
    string_bytes l.text ++ texts (drop l.answer-index l.answers) ≡ string_bytes l.fn.text ++ texts l.answers
