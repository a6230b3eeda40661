use Rattle.std.proofs.Common.{◌∙◌, sym, ap, subst, ◌+◌, length, []}
use Rattle.std.proofs.lemmas.List.{length_push}
use Rattle.testing_rules_suites.specs.steps.PresentSteps.{AreSuites, IsSuiteOn}
use Rattle.testing_rules_suites.proofs.Extending.{suite_of_none}
use Rattle.testing_rules_suites.proofs.Suites.{are_none, are_more}
use Rattle.testing_rules_suites.proofs.carried_suites.empty_suites.Goals as goal

pub loop-arch-init : goal.loop-arch-init
loop-arch-init c = record {
  count = ap length c.new-suites.ensures.items;
  each = subst (AreSuites [] []) (sym c.new-suites.ensures.items) (are_none [] []);
}

pub loop-arch-preserved : goal.loop-arch-preserved
loop-arch-preserved c =
    let suites = c.loop-arch.suites.items in
    let new = c.new.result in
    let arch = c.loop-arch._arch in
    record {
      count = ap length c.in_ok-push.ensures.items ∙ length_push suites new ∙ ap (λ n. n + 1) c.loop-arch.invariant.count;
      each = subst (AreSuites [] []) (sym c.in_ok-push.ensures.items)
          (are_more [] [] suites arch new c.loop-arch.invariant.each c.loop-arch.invariant.count (subst (IsSuiteOn arch [] []) (sym c.new.ensures) (suite_of_none arch)));
    }
