use Rattle.sqlite.specs.Held.{state}
use Rattle.office_store_testing_tables.proofs.MailLemmas.{found_is, crowded_from}
use Rattle.office_store_testing_tables.proofs.mail.find.Goals as goal

pub returns-clause-found : goal.returns-clause-found
returns-clause-found g c trusted =
    found_is ((state g.S.Store c.letters.new.conn).now.trees 1) c.args.sender c.args.number c.only_text.result c.in_ok-rows.rows.items (c.in_ok-rows.ensures.finds trusted) (rw c.as_slice.ensures.value at c.only_text.ensures.ok)

pub returns-clause-bad : goal.returns-clause-bad
returns-clause-bad g c trusted bad letters keyed =
    crowded_from ((state g.S.Store c.letters.new.conn).now.trees 1) c.args.sender c.args.number c.in_ok-rows.rows.items (c.in_ok-rows.ensures.finds trusted) (rw c.as_slice.ensures.value at (c.only_text.ensures.none bad)) (rw c.as_slice.ensures.value at (c.only_text.ensures.one bad)) letters keyed
