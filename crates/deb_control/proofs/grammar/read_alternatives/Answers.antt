use Rattle.std.proofs.Common.{Ok, sym, ap, ◌∙◌}
use Rattle.std.specs.List.{slice_split}
use Rattle.std.proofs.lemmas.Result.{err_from_is_err_and}
use Rattle.deb_control.specs.Results.{each_of}
use Rattle.deb_control.specs.Relations.{is_bar, alternative_in, clause_in}
use Rattle.deb_control.specs.declared.relation.Signs.TheVariants.{Any}
use Rattle.deb_control.proofs.Each.{items_left, begins_with_none, each_step, each_fails, each_ends, fails_as}
use Rattle.deb_control.proofs.grammar.read_alternatives.Goals as goal

pub parts-init : goal.parts-init
parts-init c = rw c.in_ok-alternatives.ensures.items (begins_with_none (each_of (alternative_in Any) (slice_split is_bar c.args.item.now)))

pub parts-preserved : goal.parts-preserved
parts-preserved c =
    let cut = ap (items_left is_bar) c.in-Some.is ∙ c.next_item.ensures.items in
    rw c.in_ok-push.ensures.items (sym (each_step (alternative_in Any) c.parts.alternatives.items _ _ _ _ cut c.in_ok-read_alternative.ensures) ∙ c.parts.invariant)

pub returns-in_err-read_alternative : goal.returns-in_err-read_alternative
unfolding clause_in
returns-in_err-read_alternative c =
    let cut = ap (items_left is_bar) c.in-Some.is ∙ c.next_item.ensures.items in
    let p = err_from_is_err_and c.from_residual-in_err-read_alternative.result c.from_residual-in_err-read_alternative.ensures.1 in
    rw (p.1, p.2) (fails_as c.in_err-read_alternative.field-0.0 (alternative_in Any c.next_item.result.0.now) (clause_in c.args.item.now)
    (λ f bad. sym c.parts.invariant ∙ each_fails (alternative_in Any) c.parts.alternatives.items _ _ _ f cut bad)
    c.in_err-read_alternative.ensures)

pub returns : goal.returns
unfolding clause_in
returns c = sym c.parts.invariant ∙ each_ends (alternative_in Any) c.parts.alternatives.items _ (ap (items_left is_bar) c.in_default.is) ∙ ap Ok (sym c.new.ensures)
