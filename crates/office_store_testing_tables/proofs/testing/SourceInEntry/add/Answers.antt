use Rattle.sqlite.specs.Held.{state}
use Rattle.office_store_testing_tables.specs.steps.Texts.{add_source_text}
use Rattle.office_store_testing_tables.specs.steps.EntrySteps.{source_parameters}
use Rattle.office_store_testing_tables.proofs.StateLemmas.{lasts_survived}
use Rattle.office_store_testing_tables.proofs.StepLemmas.{Stepped}
use Rattle.office_store_testing_tables.proofs.WithinLemmas.{stepped_does}
use Rattle.office_store_testing_tables.proofs.EntryWrites.{adds_source}
use Rattle.office_store_testing_tables.proofs.testing.SourceInEntry.add.Goals as goal

stepped : (g : _) (c : goal.After-execute g) → Stepped add_source_text (source_parameters c.args.self.now.name c.args.self.now.sender c.args.self.now.number) (state g.S.Store c.args.tx.now.conn.now) (state g.S.Store c.execute.new.self.conn.now) c.execute.result
stepped g c = record {
  clean = c.execute.ensures.survives.clean;
  limit = c.execute.ensures.survives.limit;
  ended = λ idle. (_, (c.execute.ensures.ended idle).0);
  runs = rw c.values_of_source-values.ensures.is at c.execute.ensures.runs;
}

pub returns : goal.returns
returns g c =
    let fits = c.values_of_source-values.ensures.fits in
    stepped_does _ _ _ _ _ c.execute.result (stepped g c) c.execute.ensures.same_reference (λ idle. (c.execute.ensures.ended idle).1) (lasts_survived _ _ c.execute.ensures.survives) c.requires
    (λ count inside h. adds_source c.args.self.now.name c.args.self.now.sender c.args.self.now.number fits.0 fits.1 _ _ count inside.schema h)
