use Rattle.std.proofs.Common.{◌∷◌, [], pos}
use Rattle.sqlite.specs.declared.types.Value.TheVariants.{Int, Text}
use Rattle.sqlite.specs.Held.{state}
use Rattle.office_store_testing_tables.specs.steps.Texts.{add_office_text}
use Rattle.office_store_testing_tables.proofs.StateLemmas.{lasts_survived}
use Rattle.office_store_testing_tables.proofs.StepLemmas.{Stepped}
use Rattle.office_store_testing_tables.proofs.WithinLemmas.{stepped_does}
use Rattle.office_store_tables.proofs.RunWrites.{says}
use Rattle.office_store_tables.proofs.runs.add_office.Goals as goal

stepped : (g : _) (c : goal.After-execute g) → Stepped add_office_text (Int (pos c.args.schema) ∷ Text c.args.setup.now ∷ Int (pos c.args.finished) ∷ []) (state g.S.Store c.args.tx.now.conn.now) (state g.S.Store c.execute.new.self.conn.now) c.execute.result
stepped g c = record {
  clean = c.execute.ensures.survives.clean;
  limit = c.execute.ensures.survives.limit;
  ended = λ idle. (_, (c.execute.ensures.ended idle).0);
  runs = rw (c.params-to_sql.ensures, c.params-to_sql-2.ensures, c.params-to_sql-3.ensures) at c.execute.ensures.runs;
}

pub returns : goal.returns
returns g c =
    stepped_does _ _ _ _ _ c.execute.result (stepped g c) c.execute.ensures.same_reference (λ idle. (c.execute.ensures.ended idle).1) (lasts_survived _ _ c.execute.ensures.survives) c.requires
    (λ count inside h. says (record { schema = c.args.schema; setup = c.args.setup.now; finished = c.args.finished }) _ _ count inside.schema h)
