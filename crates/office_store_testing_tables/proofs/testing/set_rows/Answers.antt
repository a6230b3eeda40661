use Rattle.office_store_testing_tables.proofs.WithinLemmas.{makes_also}
use Rattle.office_store_testing_tables.proofs.DifferenceLemmas.{sets_rows}
use Rattle.office_store_testing_tables.proofs.testing.set_rows.Goals as goal

pub returns : goal.returns
returns g c = makes_also _ (λ db next _ it. sets_rows db next c.args.rows.now c.requires.ordered it) c.set_entries.ensures
