use Rattle.std.proofs.Common.{◌∙◌, sym, ap, subst, length}
use Rattle.std.proofs.lemmas.Result.{IfOk-from_err, on_err_weaker}
use Rattle.testing_install.specs.Among.{after_change}
use Rattle.testing_rules_suites.specs.steps.ArchRows.{AreNumbers, IsAfter}
use Rattle.testing_rules_suites.proofs.Numbers.{numbers_within, part_after, after_numbers, on_ok_weaker}
use Rattle.testing_rules_suites.proofs.arch_suite.ArchSuite.change.Goals as goal

pub change-requires-clause-leaving : goal.change-requires-clause-leaving
change-requires-clause-leaving c =
    numbers_within c.deref.result.now c.args.leaving.now c.in_ok-left.left.items c.deref-3.result.now (length c.self.inside.suite.rows) c.in_ok-left.ensures
    (ap length c.deref.ensures.value ∙ sym c.self.invariant.count) c.deref-3.ensures

pub change-requires-clause-coming : goal.change-requires-clause-coming
change-requires-clause-coming c =
    numbers_within c.deref-2.result.now c.args.coming.now c.in_ok-came.came.items c.deref-4.result.now (length c.self.inside.suite.rows) c.in_ok-came.ensures
    (ap length c.deref-2.ensures.value ∙ sym c.self.invariant.count) c.deref-4.ensures

pub invariant_of-self : goal.invariant_of-self
invariant_of-self c =
    part_after c.self.inside.places.items c.deref-3.result.now c.deref-4.result.now c.self.inside.suite c.change.new.self c.change.result c.self.invariant c.change.ensures.rows c.change.ensures.there c.change.ensures.err

pub returns-clause-there : goal.returns-clause-there
returns-clause-there c =
    let own = c.self.inside.places.items in
    let suite = c.self.inside.suite in
    let leaving = c.args.leaving.now in
    let coming = c.args.coming.now in
    let left = c.in_ok-left.left.items in
    let came = c.in_ok-came.came.items in
    let there = c.change.new.self.there in
    on_ok_weaker c.change.result (λ is.
    subst (λ p. IsAfter p leaving coming there) c.self.view_is
    (after_numbers own suite leaving coming left came (subst (λ ks. AreNumbers ks leaving left) c.deref.ensures.value c.in_ok-left.ensures) (subst (λ ks. AreNumbers ks coming came) c.deref-2.ensures.value c.in_ok-came.ensures)
    there (is ∙ ap (λ ks. after_change ks c.deref-4.result.now suite.there) c.deref-3.ensures ∙ ap (λ ks. after_change left ks suite.there) c.deref-4.ensures))) c.change.ensures.there

pub returns-in_err-left-clause-there : goal.returns-in_err-left-clause-there
returns-in_err-left-clause-there c = IfOk-from_err c.from_residual.result _ c.from_residual.ensures.0

pub returns-in_err-came-clause-there : goal.returns-in_err-came-clause-there
returns-in_err-came-clause-there c = IfOk-from_err c.from_residual-in_err-came.result _ c.from_residual-in_err-came.ensures.0

pub returns-clause-err : goal.returns-clause-err
returns-clause-err c =
    on_err_weaker c.change.result (λ same.
    ap (λ s. record { places = c.self.inside.places.items; suite = s }) same ∙ c.self.view_is) c.change.ensures.err
