use Rattle.std.proofs.Common.{◌≡◌, ◌∙◌, ap, subst, not, List}
use Rattle.testing_rules_model.specs.declared.facts.UnhintIn.{UnhintIn}
use Rattle.testing_rules_model.specs.Unstable.{is_in_force}
use Rattle.testing_rules_facts.proofs.hints_in_force.Unhints.leave.Goals as goal

pub returns : goal.returns
returns c = subst (λ (us : List UnhintIn). not c.has_number.result ≡ is_in_force us c.args.hint.now) c.self.view_is (ap not (c.has_number.ensures ∙ c.self.invariant c.args.hint.now.number))
