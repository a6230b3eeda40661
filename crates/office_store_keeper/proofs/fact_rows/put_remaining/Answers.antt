use Rattle.std.proofs.Common.{◌≡◌, ◌≤◌, ◌++◌, [], List, length, rules, arith, sym, ap, ◌∙◌}
use Rattle.std.proofs.lemmas.List.{append-nil, nil_from_length, take_all}
use Rattle.testing_rules_model.specs.declared.fact_row.FactRow.{FactRow}
use Rattle.office_store_keeper.specs.steps.MemoryState.{rows_left}
use Rattle.office_store_keeper.proofs.LeftRows.{each_left, none_gone}
use Rattle.office_store_keeper.proofs.fact_rows.put_remaining.Goals as goal

pub returns-then-is_empty : goal.returns-then-is_empty
returns-then-is_empty c =
    let none : c.args.gone.now ≡ [] = nil_from_length c.args.gone.now (search rules) in
    c.in_ok-extend_from_slice.ensures.items ∙ ap (λ rs. c.args.left.now.items ++ rs) (none_gone c.args.rows.now ∙ ap (λ (gs : List FactRow). rows_left gs c.args.rows.now) (sym none))

pub rows-init : goal.rows-init
rows-init c = sym (append-nil c.args.left.now.items)

pub rows-preserved : goal.rows-preserved
rows-preserved c = each_left c.args.left.now.items c.rows.left.items c.put_if_left.new.left.items c.args.gone.now c.args.rows.now c.rows.row-index _ c.rows-test.true c.rows.invariant c.in_ok-guess.ensures

pub returns : goal.returns
returns c =
    let over : length c.args.rows.now ≤ c.rows.row-index = omega arith in
    rw (take_all c.rows.row-index c.args.rows.now over) at c.rows.invariant
