use Rattle.std.proofs.Common.{◌∙◌, ap, ◌==◌}
use Rattle.std.specs.List.{list_any}
use Rattle.testing_rules_facts.proofs.Cancelling.{any-cancels}
use Rattle.testing_rules_facts.proofs.hints_in_force.Unhints.of.Goals as goal

pub invariant_of-result : goal.invariant_of-result
invariant_of-result c = λ number.
    c.in_ok-cancelled.ensures number
    ∙ ap (list_any (λ n. number == n)) (c.deref.ensures.value ∙ c.in_ok-numbers.ensures)
    ∙ any-cancels c.args.unhints.now number
