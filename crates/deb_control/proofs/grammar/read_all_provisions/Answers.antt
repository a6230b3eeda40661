use Rattle.std.proofs.Common.{sym, ap, ◌∙◌, Ok}
use Rattle.std.specs.List.{filter, list_all, slice_split}
use Rattle.std.proofs.lemmas.Result.{err_from_is_err_and}
use Rattle.deb_control.specs.Text.{is_white}
use Rattle.deb_control.specs.Results.{each_of}
use Rattle.deb_control.specs.Relations.{items, provision_in, provisions_in}
use Rattle.deb_control.specs.steps.ClauseSteps.{is_comma}
use Rattle.deb_control.proofs.Each.{items_left, not_white, then_append, begins_with_none, each_step, each_fails, each_ends, item_in_front, white_in_front, fails_as}
use Rattle.deb_control.proofs.grammar.read_all_provisions.Goals as goal

pub items-init : goal.items-init
items-init c = rw c.in_ok-provisions.ensures.items (begins_with_none (each_of provision_in (filter not_white (slice_split is_comma c.args.text.now))))

pub items-preserved-in_ok-push : goal.items-preserved-in_ok-push
items-preserved-in_ok-push c =
    let white = c.is_all_white.ensures ∙ ap (list_all is_white) c.as_bytes-in-Some.ensures.value in
    let front = ap (filter not_white) (ap (items_left is_comma) c.in-Some.is ∙ c.next_item.ensures.items) ∙ item_in_front c.next_item.result.0.now (items_left is_comma c.next_item.result.1) (sym white ∙ c.if-not-is_all_white.true) in
    rw c.in_ok-push.ensures.items (sym (each_step provision_in c.items.provisions.items _ _ _ _ front c.in_ok-read_provision.ensures) ∙ c.items.invariant)

pub items-preserved : goal.items-preserved
items-preserved c =
    let white = c.is_all_white.ensures ∙ ap (list_all is_white) c.as_bytes-in-Some.ensures.value in
    let front = ap (filter not_white) (ap (items_left is_comma) c.in-Some.is ∙ c.next_item.ensures.items) ∙ white_in_front c.next_item.result.0.now (items_left is_comma c.next_item.result.1) (sym white ∙ c.if-not-is_all_white.false) in
    ap (λ ts. then_append c.items.provisions.items (each_of provision_in ts)) (sym front) ∙ c.items.invariant

pub returns-in_err-read_provision : goal.returns-in_err-read_provision
unfolding provisions_in items
returns-in_err-read_provision c =
    let item = c.next_item.result.0.now in
    let more = items_left is_comma c.next_item.result.1 in
    let white = c.is_all_white.ensures ∙ ap (list_all is_white) c.as_bytes-in-Some.ensures.value in
    let front = ap (filter not_white) (ap (items_left is_comma) c.in-Some.is ∙ c.next_item.ensures.items) ∙ item_in_front item more (sym white ∙ c.if-not-is_all_white.true) in
    let p = err_from_is_err_and c.from_residual-in_err-read_provision.result c.from_residual-in_err-read_provision.ensures.1 in
    rw (p.1, p.2) (fails_as c.in_err-read_provision.field-0.0 (provision_in item) (provisions_in c.args.text.now)
    (λ e bad. sym c.items.invariant ∙ each_fails provision_in c.items.provisions.items _ _ _ e front bad)
    c.in_err-read_provision.ensures)

pub returns : goal.returns
unfolding provisions_in items
returns c = sym c.items.invariant ∙ each_ends provision_in c.items.provisions.items _ (ap (λ rest. filter not_white (items_left is_comma rest)) c.in_default.is) ∙ ap Ok (sym c.new.ensures)
