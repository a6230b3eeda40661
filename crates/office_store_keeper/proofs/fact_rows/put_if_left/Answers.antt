use Rattle.std.proofs.Common.{sym, ap, ◌∙◌}
use Rattle.std.specs.Prelude.{is_ok}
use Rattle.office_store_keeper.proofs.FactSets.{found_among}
use Rattle.office_store_keeper.proofs.LeftRows.{one_gone, one_left}
use Rattle.office_store_keeper.proofs.fact_rows.put_if_left.Goals as goal

pub returns-in-Ok : goal.returns-in-Ok
returns-in-Ok c =
    one_gone c.args.left.now.items c.args.gone.now c.args.row.now
    (sym (found_among c.args.row.now c.args.gone.now c.place_near.result c.requires c.place_near.ensures.bound c.place_near.ensures.position) ∙ ap is_ok c.in-Ok.is)

pub returns-in_ok-push-in-Err : goal.returns-in_ok-push-in-Err
returns-in_ok-push-in-Err c =
    c.in_ok-push-in-Err.ensures.items
    ∙ one_left c.args.left.now.items c.args.gone.now c.args.row.now
    (sym (found_among c.args.row.now c.args.gone.now c.place_near.result c.requires c.place_near.ensures.bound c.place_near.ensures.position) ∙ ap is_ok c.in-Err.is)
