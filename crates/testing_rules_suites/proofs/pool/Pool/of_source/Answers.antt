use Rattle.std.proofs.Common.{◌≡◌, ◌∙◌, sym, ap, subst, Some, Contains}
use Rattle.std.specs.Prelude.{option_map}
use Rattle.std.specs.List.{slice_get}
use Rattle.std.proofs.lemmas.Option.{slice_get-map}
use Rattle.testing_rules_model.specs.declared.suite.RowIn.{RowIn}
use Rattle.testing_rules_suites.specs.steps.Pools.{sources_of}
use Rattle.testing_rules_items.specs.Words.{Text}
use Rattle.testing_rules_suites.proofs.pool.Pool.of_source.Goals as goal

pub returns-clause-complete : goal.returns-clause-complete
returns-clause-complete c = λ k r at e.
    let rows = c.self.inside.rows.items in
    let text_of : RowIn → Text = λ r. r.binary.source in
    let here : slice_get rows k ≡ Some r = subst (λ xs. slice_get xs k ≡ Some r) (sym c.self.view_is) at in
    let text : slice_get (sources_of rows) k ≡ Some c.args.name.now = slice_get-map text_of rows k ∙ ap (option_map text_of) here ∙ ap Some e in
    subst (λ ps. Contains ps k) (sym c.places.ensures) (c.self.invariant.indexed.sources.complete k c.args.name.now text)
