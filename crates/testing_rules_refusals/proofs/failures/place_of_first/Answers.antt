use Rattle.std.proofs.Common.{◌≡◌, ◌∙◌, sym, ap, Some, None}
use Rattle.std.specs.Option.{option_copied}
use Rattle.testing_rules_model.specs.Moves.{first_failing}
use Rattle.testing_rules_suites.specs.steps.JudgedRows.{answers}
use Rattle.testing_rules_refusals.specs.steps.Refusals.{HasFailing}
use Rattle.testing_rules_refusals.proofs.Failings.{failing_there, none_then}
use Rattle.testing_rules_refusals.proofs.failures.place_of_first.Goals as goal

pub returns-in-Some-clause-none : goal.returns-in-Some-clause-none
returns-in-Some-clause-none c =
    let a = c.args in
    let before = answers a.before.now in
    let after = answers a.after.now in
    let name = c.in-Some.name.now in
    let first : first_failing a.arch a.group.now before after ≡ Some name = sym c.first_failing.ensures ∙ ap option_copied c.in-Some.is in
    none_then c.place_of.result (HasFailing a.arch a.group.now before after name → ⊥) (first_failing a.arch a.group.now before after ≡ None)
    (λ missing. absurd (missing (failing_there a.arch a.group.now before after name first))) c.place_of.ensures.none
