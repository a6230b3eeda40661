use Rattle.sqlite.specs.Held.{state}
use Rattle.office_store_testing_tables.specs.steps.Texts.{add_row_text}
use Rattle.office_store_testing_tables.specs.steps.EntrySteps.{row_parameters}
use Rattle.office_store_testing_tables.proofs.StateLemmas.{lasts_survived}
use Rattle.office_store_testing_tables.proofs.StepLemmas.{Stepped}
use Rattle.office_store_testing_tables.proofs.WithinLemmas.{stepped_does}
use Rattle.office_store_testing_tables.proofs.EntryWrites.{adds_row}
use Rattle.office_store_testing_tables.proofs.testing.RowInEntry.add.Goals as goal

stepped : (g : _) (c : goal.After-execute g) → Stepped add_row_text (row_parameters c.args.self.now.arch c.args.self.now.binary.name c.args.self.now.sender c.args.self.now.number c.args.self.now.place) (state g.S.Store c.args.tx.now.conn.now) (state g.S.Store c.execute.new.self.conn.now) c.execute.result
stepped g c = record {
  clean = c.execute.ensures.survives.clean;
  limit = c.execute.ensures.survives.limit;
  ended = λ idle. (_, (c.execute.ensures.ended idle).0);
  runs = rw c.values_of_row-values.ensures.is at c.execute.ensures.runs;
}

pub returns : goal.returns
returns g c =
    let fits = c.values_of_row-values.ensures.fits in
    stepped_does _ _ _ _ _ c.execute.result (stepped g c) c.execute.ensures.same_reference (λ idle. (c.execute.ensures.ended idle).1) (lasts_survived _ _ c.execute.ensures.survives) c.requires
    (λ count inside h. adds_row c.args.self.now.arch c.args.self.now.binary.name c.args.self.now.sender c.args.self.now.number c.args.self.now.place fits.0 fits.1 fits.2 fits.3 _ _ count inside.schema h)
