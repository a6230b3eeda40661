use Rattle.std.proofs.Common.{◌∷◌, [], pos}
use Rattle.sqlite.specs.declared.types.Value.TheVariants.{Int, Blob}
use Rattle.sqlite.specs.Held.{state}
use Rattle.office_store_testing_tables.specs.steps.Texts.{keep_text}
use Rattle.office_store_testing_tables.proofs.StateLemmas.{lasts_survived}
use Rattle.office_store_testing_tables.proofs.StepLemmas.{Stepped}
use Rattle.office_store_testing_tables.proofs.WithinLemmas.{stepped_does}
use Rattle.office_store_testing_tables.proofs.KeepLemmas.{keeps}
use Rattle.office_store_tables.proofs.mail.add_letter.Goals as goal

stepped : (g : _) (c : goal.After-execute g) → Stepped keep_text (Int (pos c.args.sender) ∷ Int (pos c.args.number) ∷ Blob c.args.text.now ∷ []) (state g.S.Store c.args.tx.now.conn.now) (state g.S.Store c.execute.new.self.conn.now) c.execute.result
stepped g c = record {
  clean = c.execute.ensures.survives.clean;
  limit = c.execute.ensures.survives.limit;
  ended = λ idle. (_, (c.execute.ensures.ended idle).0);
  runs = rw (c.params-to_sql.ensures, c.params-to_sql-2.ensures, c.params-to_sql-3.ensures) at c.execute.ensures.runs;
}

pub returns : goal.returns
returns g c =
    stepped_does _ _ _ _ _ c.execute.result (stepped g c) c.execute.ensures.same_reference (λ idle. (c.execute.ensures.ended idle).1) (lasts_survived _ _ c.execute.ensures.survives) c.requires
    (λ count inside h. keeps c.args.sender c.args.number c.args.text.now _ _ count inside.schema h)
