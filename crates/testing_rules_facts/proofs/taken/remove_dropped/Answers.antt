use Rattle.std.proofs.Common.{◌≡◌, ◌∙◌, sym, ap, cond, ◌∷◌, [], ◌<◌, length, get_or, map, true, false}
use Rattle.std.specs.List.{remove}
use Rattle.std.specs.declared.cmp.Ordering.TheVariants.{Equal}
use Rattle.testing_rules_model.specs.steps.FactRows.{build_row}
use Rattle.testing_rules_model.specs.WithMessage.{outlives}
use Rattle.testing_rules_model.specs.Unstable.{pair_order, pair_of, drop_pair}
use Rattle.testing_rules_model.proofs.MoreMail.{pair_total}
use Rattle.testing_rules_model.proofs.KeyOrder.{searchable}
use Rattle.testing_rules_facts.proofs.KeySlots.{kept-found, kept-missing, outlives-other}
use Rattle.testing_rules_facts.proofs.KeyShifts.{gone-at, gone-missing}
use Rattle.testing_rules_facts.proofs.taken.remove_dropped.Goals as goal

pub returns-then-outlives-clause-items : goal.returns-then-outlives-clause-items
returns-then-outlives-clause-items c =
    let d = c.args.drop.now in
    let xs = c.args.rows.now.items in
    let i = c.in-Ok.i in
    let e = c.index-other.result.now in
    let bound : i < length xs = rw c.deref.ensures.value at c.in-Ok.ensures.bound in
    let read : get_or xs i e ≡ e = sym c.index-other.ensures in
    let level : pair_order (pair_of (get_or xs i e)) (drop_pair d) ≡ Equal = rw (c.deref.ensures.value, c.as_str.ensures, c.as_str-2.ensures) at c.in-Ok.ensures.found e in
    let outlived : outlives d (get_or xs i e) ≡ true = ap (outlives d) read ∙ sym c.outlives.ensures ∙ c.if-outlives.true in
    let kept = kept-found pair_of pair_total (outlives d) (drop_pair d) (outlives-other d) xs i e c.requires bound level in
    sym (kept ∙ ap (λ t. cond t xs (remove xs i)) outlived)

pub returns-then-outlives-clause-gone : goal.returns-then-outlives-clause-gone
returns-then-outlives-clause-gone c =
    let d = c.args.drop.now in
    let xs = c.args.rows.now.items in
    let i = c.in-Ok.i in
    let e = c.index-other.result.now in
    let bound : i < length xs = rw c.deref.ensures.value at c.in-Ok.ensures.bound in
    let read : get_or xs i e ≡ e = sym c.index-other.ensures in
    let level : pair_order (pair_of (get_or xs i e)) (drop_pair d) ≡ Equal = rw (c.deref.ensures.value, c.as_str.ensures, c.as_str-2.ensures) at c.in-Ok.ensures.found e in
    let outlived : outlives d (get_or xs i e) ≡ true = ap (outlives d) read ∙ sym c.outlives.ensures ∙ c.if-outlives.true in
    sym (ap (map build_row) (gone-at pair_of pair_total (outlives d) (drop_pair d) (outlives-other d) true xs i e c.requires bound level outlived))

pub returns-else-outlives-clause-items : goal.returns-else-outlives-clause-items
returns-else-outlives-clause-items c =
    let d = c.args.drop.now in
    let xs = c.args.rows.now.items in
    let i = c.in-Ok.i in
    let e = c.index-other.result.now in
    let bound : i < length xs = rw c.deref.ensures.value at c.in-Ok.ensures.bound in
    let read : get_or xs i e ≡ e = sym c.index-other.ensures in
    let level : pair_order (pair_of (get_or xs i e)) (drop_pair d) ≡ Equal = rw (c.deref.ensures.value, c.as_str.ensures, c.as_str-2.ensures) at c.in-Ok.ensures.found e in
    let outlived : outlives d (get_or xs i e) ≡ false = ap (outlives d) read ∙ sym c.outlives.ensures ∙ c.if-outlives.false in
    let kept = kept-found pair_of pair_total (outlives d) (drop_pair d) (outlives-other d) xs i e c.requires bound level in
    c.remove.ensures.items ∙ sym (kept ∙ ap (λ t. cond t xs (remove xs i)) outlived)

pub returns-else-outlives-clause-gone : goal.returns-else-outlives-clause-gone
returns-else-outlives-clause-gone c =
    let d = c.args.drop.now in
    let xs = c.args.rows.now.items in
    let i = c.in-Ok.i in
    let e = c.index-other.result.now in
    let bound : i < length xs = rw c.deref.ensures.value at c.in-Ok.ensures.bound in
    let read : get_or xs i e ≡ e = sym c.index-other.ensures in
    let level : pair_order (pair_of (get_or xs i e)) (drop_pair d) ≡ Equal = rw (c.deref.ensures.value, c.as_str.ensures, c.as_str-2.ensures) at c.in-Ok.ensures.found e in
    let outlived : outlives d (get_or xs i e) ≡ false = ap (outlives d) read ∙ sym c.outlives.ensures ∙ c.if-outlives.false in
    ap (λ r. r ∷ []) (c.build_row-row.ensures ∙ ap build_row (sym read)) ∙ sym (ap (map build_row) (gone-at pair_of pair_total (outlives d) (drop_pair d) (outlives-other d) false xs i e c.requires bound level outlived))

pub returns-in-Err-clause-items : goal.returns-in-Err-clause-items
returns-in-Err-clause-items c =
    let d = c.args.drop.now in
    let xs = c.args.rows.now.items in
    let found = rw (c.deref.ensures.value, c.as_str.ensures, c.as_str-2.ensures) at c.in-Err.ensures.found in
    sym (kept-missing pair_of pair_total (outlives d) (drop_pair d) (outlives-other d) xs c.in-Err.field-0 (found (searchable pair_of pair_total xs c.requires (drop_pair d))))

pub returns-in-Err-clause-gone : goal.returns-in-Err-clause-gone
returns-in-Err-clause-gone c =
    let d = c.args.drop.now in
    let xs = c.args.rows.now.items in
    let found = rw (c.deref.ensures.value, c.as_str.ensures, c.as_str-2.ensures) at c.in-Err.ensures.found in
    sym (ap (map build_row) (gone-missing pair_of pair_total (outlives d) (drop_pair d) (outlives-other d) xs c.in-Err.field-0 (found (searchable pair_of pair_total xs c.requires (drop_pair d)))))
