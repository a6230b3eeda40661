use Rattle.sqlite.specs.Held.{state}
use Rattle.office_store_tables.proofs.NextFacts.{next_found, next_crowded}
use Rattle.office_store_tables.proofs.mail.next_number.Goals as goal

pub returns-clause-next : goal.returns-clause-next
returns-clause-next g c trusted =
    next_found ((state g.S.Store c.least_from.new.conn).now.trees 1) c.args.sender c.args.from c.only_number.result c.in_ok-rows.rows.items (c.in_ok-rows.ensures.finds trusted) (rw c.as_slice.ensures.value at c.only_number.ensures.ok)

pub returns-clause-bad : goal.returns-clause-bad
returns-clause-bad g c trusted bad small letters apart =
    let none = c.only_number.ensures.none bad in
    let one = c.only_number.ensures.one bad in
    next_crowded ((state g.S.Store c.least_from.new.conn).now.trees 1) c.args.sender c.args.from c.in_ok-rows.rows.items (c.in_ok-rows.ensures.finds trusted)
    (rw c.as_slice.ensures.value at none) (rw c.as_slice.ensures.value at one) small letters apart
