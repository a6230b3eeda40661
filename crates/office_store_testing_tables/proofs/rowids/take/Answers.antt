use Rattle.std.proofs.Common.{◌∷◌, [], Ok, subst, SFits, w64, rules, to_z-of_z}
use Rattle.sqlite.specs.declared.types.Value.TheVariants.{Int}
use Rattle.sqlite.specs.Held.{state}
use Rattle.sqlite.specs.State.{Executes}
use Rattle.office_store_testing_tables.proofs.StateLemmas.{lasts_survived}
use Rattle.office_store_testing_tables.proofs.StepLemmas.{Stepped}
use Rattle.office_store_testing_tables.proofs.WithinLemmas.{stepped_does}
use Rattle.office_store_testing_tables.proofs.FactWrites.{takes_rows}
use Rattle.office_store_testing_tables.proofs.rowids.take.Goals as goal

stepped : (g : _) (c : goal.After-execute g) → Stepped c.taking.result.now (Int c.args.id ∷ []) (state g.S.Store c.args.tx.now.conn.now) (state g.S.Store c.execute.new.self.conn.now) c.execute.result
stepped g c =
    let fits : SFits w64 c.args.id = search rules in
    record {
      clean = c.execute.ensures.survives.clean;
      limit = c.execute.ensures.survives.limit;
      ended = λ idle. (_, (c.execute.ensures.ended idle).0);
      runs = rw (to_z-of_z fits) at (rw c.params-to_sql.ensures at c.execute.ensures.runs);
    }

pub returns : goal.returns
returns g c =
    let old = state g.S.Store c.args.tx.now.conn.now in
    let new = state g.S.Store c.execute.new.self.conn.now in
    stepped_does _ _ _ _ _ c.execute.result (stepped g c) c.execute.ensures.same_reference (λ idle. (c.execute.ensures.ended idle).1) (lasts_survived _ _ c.execute.ensures.survives) c.requires
    (λ count inside h. takes_rows c.args.table c.args.id old new count inside.schema (subst (λ sql. Executes sql (Int c.args.id ∷ []) old new (Ok count)) c.taking.ensures h))
