use Rattle.std.proofs.Common.{◌≡◌, pos, ap, ◌∙◌, arith}
use Rattle.sqlite.specs.declared.types.Value.TheVariants.{Int}
use Rattle.office_store_testing_tables.proofs.FactReads.{shown_say}
use Rattle.office_store_testing_tables.proofs.fact_rows.delays_number.Goals as goal

pub returns-clause-ok : goal.returns-clause-ok
returns-clause-ok c release =
    let one : c.in_ok-id.id ≡ 1 = omega (arith, c.if-id-ne1.false) in
    shown_say release c.args.row.now c.in_ok-number.number (c.in_ok-id.ensures.ok.0 ∙ ap (λ n. Int (pos n)) one) c.in_ok-number.ensures.ok.0 c.in_ok-number.ensures.ok.1
