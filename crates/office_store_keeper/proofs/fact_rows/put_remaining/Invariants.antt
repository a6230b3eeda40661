use Rattle.std.proofs.Common.{◌≡◌, ◌++◌, take}
use Rattle.office_store_keeper.specs.steps.MemoryState.{rows_left}
use Rattle.office_store_keeper.proofs.fact_rows.put_remaining.Given as goal

-- those of the rows so far
abbrev pub invariant-rows : goal.invariant-rows
invariant-rows l = l.left.items ≡ l.fn.left.items ++ rows_left l.gone (take l.row-index l.rows)
