use Rattle.std.proofs.Common.{ap}
use Rattle.std.specs.List.{flat_map}
use Rattle.sqlite.specs.Values.{bound}
use Rattle.sqlite.specs.Held.{state}
use Rattle.office_store_testing_tables.specs.steps.Texts.{keep_eight_text}
use Rattle.office_store_testing_tables.specs.steps.TableSteps.{letter_parameters}
use Rattle.office_store_testing_tables.proofs.Eights.{flattened}
use Rattle.office_store_testing_tables.proofs.StateLemmas.{lasts_survived}
use Rattle.office_store_testing_tables.proofs.StepLemmas.{Stepped}
use Rattle.office_store_testing_tables.proofs.WithinLemmas.{stepped_does}
use Rattle.office_store_testing_tables.proofs.KeepLemmas.{keeps_eight}
use Rattle.office_store_tables.proofs.mail.add_eight.Goals as goal

stepped : (g : _) (c : goal.After-execute g) → Stepped keep_eight_text (flat_map letter_parameters c.args.letters.now) (state g.S.Store c.args.tx.now.conn.now) (state g.S.Store c.execute.new.self.conn.now) c.execute.result
stepped g c = record {
  clean = c.execute.ensures.survives.clean;
  limit = c.execute.ensures.survives.limit;
  ended = λ idle. (_, (c.execute.ensures.ended idle).0);
  runs = rw (ap bound c.as_flattened.ensures.value, flattened _ _ _ _ c.eight_values-values.ensures) at c.execute.ensures.runs;
}

pub returns : goal.returns
returns g c =
    stepped_does _ _ _ _ _ c.execute.result (stepped g c) c.execute.ensures.same_reference (λ idle. (c.execute.ensures.ended idle).1) (lasts_survived _ _ c.execute.ensures.survives) c.requires.inside
    (λ count inside h. keeps_eight _ _ count inside.schema c.args.letters.now c.requires.eight h)
