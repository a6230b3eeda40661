use Rattle.std.proofs.Common.{◌≡◌, ◌∙◌, sym, ap, subst, Some, Contains}
use Rattle.std.specs.Prelude.{option_map}
use Rattle.std.specs.List.{slice_get}
use Rattle.std.proofs.lemmas.Option.{slice_get-map}
use Rattle.deb_control.specs.declared.binary.Binary.{Binary}
use Rattle.testing_rules_model.specs.declared.suite.RowIn.{RowIn}
use Rattle.testing_rules_suites.specs.steps.Pools.{packages_of}
use Rattle.testing_rules_suites.proofs.pool.Pool.of_name.Goals as goal

pub returns-clause-complete : goal.returns-clause-complete
returns-clause-complete c = λ k r at e.
    let rows = c.self.inside.rows.items in
    let binary_of : RowIn → Binary = λ r. r.binary in
    let here : slice_get rows k ≡ Some r = subst (λ xs. slice_get xs k ≡ Some r) (sym c.self.view_is) at in
    let stands : slice_get (packages_of rows) k ≡ Some r.binary = slice_get-map binary_of rows k ∙ ap (option_map binary_of) here in
    subst (λ ps. Contains ps k) (sym c.places.ensures) (c.self.invariant.indexed.names.complete c.args.name.now k r.binary stands e)
