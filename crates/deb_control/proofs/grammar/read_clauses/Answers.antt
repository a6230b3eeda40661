use Rattle.std.proofs.Common.{sym, ap, ◌∙◌}
use Rattle.std.specs.List.{filter, list_all, slice_split}
use Rattle.std.proofs.lemmas.Result.{err_from_is_err_and}
use Rattle.deb_control.specs.Text.{is_white}
use Rattle.deb_control.specs.Results.{each_of}
use Rattle.deb_control.specs.Relations.{items, clause_in, clauses_in}
use Rattle.deb_control.specs.steps.ClauseSteps.{is_comma}
use Rattle.deb_control.proofs.Each.{items_left, not_white, then_append, begins_with_none, each_step, each_fails, each_ends, item_in_front, white_in_front, fails_as}
use Rattle.deb_control.proofs.grammar.read_clauses.Goals as goal

pub items-init : goal.items-init
items-init c = rw c.in_ok-clauses.ensures.items (begins_with_none (each_of clause_in (filter not_white (slice_split is_comma c.args.text.now))))

pub items-preserved-in_ok-push : goal.items-preserved-in_ok-push
items-preserved-in_ok-push c =
    let white = c.is_all_white.ensures ∙ ap (list_all is_white) c.as_bytes-in-Some.ensures.value in
    let front = ap (filter not_white) (ap (items_left is_comma) c.in-Some.is ∙ c.next_item.ensures.items) ∙ item_in_front c.next_item.result.0.now (items_left is_comma c.next_item.result.1) (sym white ∙ c.if-not-is_all_white.true) in
    rw c.in_ok-push.ensures.items (sym (each_step clause_in c.items.clauses.items _ _ _ _ front c.in_ok-read_clause.ensures) ∙ c.items.invariant)

pub items-preserved : goal.items-preserved
items-preserved c =
    let white = c.is_all_white.ensures ∙ ap (list_all is_white) c.as_bytes-in-Some.ensures.value in
    let front = ap (filter not_white) (ap (items_left is_comma) c.in-Some.is ∙ c.next_item.ensures.items) ∙ white_in_front c.next_item.result.0.now (items_left is_comma c.next_item.result.1) (sym white ∙ c.if-not-is_all_white.false) in
    ap (λ ts. then_append c.items.clauses.items (each_of clause_in ts)) (sym front) ∙ c.items.invariant

pub returns-in_err-read_clause : goal.returns-in_err-read_clause
unfolding clauses_in items
returns-in_err-read_clause c =
    let item = c.next_item.result.0.now in
    let more = items_left is_comma c.next_item.result.1 in
    let white = c.is_all_white.ensures ∙ ap (list_all is_white) c.as_bytes-in-Some.ensures.value in
    let front = ap (filter not_white) (ap (items_left is_comma) c.in-Some.is ∙ c.next_item.ensures.items) ∙ item_in_front item more (sym white ∙ c.if-not-is_all_white.true) in
    let p = err_from_is_err_and c.from_residual-in_err-read_clause.result c.from_residual-in_err-read_clause.ensures.1 in
    rw (p.1, p.2) (fails_as c.in_err-read_clause.field-0.0 (clause_in item) (clauses_in c.args.text.now)
    (λ e bad. sym c.items.invariant ∙ each_fails clause_in c.items.clauses.items _ _ _ e front bad)
    c.in_err-read_clause.ensures)

pub returns : goal.returns
unfolding clauses_in items
returns c = sym c.items.invariant ∙ each_ends clause_in c.items.clauses.items _ (ap (λ rest. filter not_white (items_left is_comma rest)) c.in_default.is)
