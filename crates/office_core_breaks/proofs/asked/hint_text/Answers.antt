use Rattle.std.proofs.Common.{rules, ◌≡◌, ◌++◌, List, ℕ, ap, ◌∙◌}
use Rattle.std.specs.Prelude.{codes}
use Rattle.office_core_replies.specs.Replies.{name_at}
use Rattle.office_core_facts.specs.Seen.{release}
use Rattle.office_core_breaks.specs.Asked.{hint_text}
use Rattle.office_core_breaks.proofs.asked.hint_text.Goals as goal

pub returns : goal.returns
unfolding hint_text
returns c =
    let setup = c.args.setup.now in
    let text : c.from_string.result ≡ c.in_ok-text.text.bytes.items = search rules in
    let name : c.name_at-name.result.now ≡ name_at setup (release setup) = c.name_at-name.ensures ∙ ap (name_at setup) c.release_place.ensures in
    text ∙ c.in_ok-text.ensures.ok ∙ ap (λ (n : List ℕ). codes "From: " ++ (n ++ (codes "\nNumber: 1\nKind: hint\nHint: " ++ (c.args.hint.now ++ codes "\n")))) name
