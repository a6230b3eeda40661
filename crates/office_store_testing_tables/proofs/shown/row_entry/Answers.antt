use Rattle.office_store_testing_tables.proofs.EntrySays.{entry_says}
use Rattle.office_store_testing_tables.proofs.shown.row_entry.Goals as goal

pub returns-clause-ok : goal.returns-clause-ok
returns-clause-ok c =
    entry_says c.args.row.now c.in_ok-_rowid._rowid c.in_ok-arch.arch c.in_ok-name.name.now c.in_ok-sender.sender c.in_ok-number.number c.in_ok-place.place c.in_ok-_rowid.ensures.ok c.in_ok-arch.ensures.ok.0 c.in_ok-name.ensures.ok c.in_ok-sender.ensures.ok.0
    c.in_ok-number.ensures.ok.0 c.in_ok-place.ensures.ok.0 c.in_ok-arch.ensures.ok.1 c.in_ok-sender.ensures.ok.1 c.in_ok-number.ensures.ok.1 c.in_ok-place.ensures.ok.1
