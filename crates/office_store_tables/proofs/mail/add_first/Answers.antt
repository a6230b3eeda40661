use Rattle.sqlite.specs.Held.{state}
use Rattle.office_store_testing_tables.proofs.WithinLemmas.{kept_within, failed_within, failed_does}
use Rattle.office_store_tables.proofs.KeepAllLemmas.{letters_head}
use Rattle.office_store_tables.proofs.mail.add_first.Goals as goal

pub returns-clause-does : goal.returns-clause-does
returns-clause-does g c = record {
  steps = kept_within _ c.in_ok-add_letter.ensures.steps;
  yields = λ trusted. letters_head (state g.S.Store c.args.tx.now.conn.now).now.trees (state g.S.Store c.add_letter.new.tx.conn.now).now.trees c.args.letters.now c.index-letters-0.result c.as_slice.result.now c.requires.some c.index-letters-0.is c.as_slice.ensures (c.in_ok-add_letter.ensures.yields trusted);
}

pub returns-in_err-add_eight-clause-does : goal.returns-in_err-add_eight-clause-does
returns-in_err-add_eight-clause-does g c = failed_does _ c.from_residual.ensures.0 (failed_within _ c.from_residual.ensures.0 c.in_err-add_eight.ensures.steps)

pub returns-in_err-add_letter-clause-does : goal.returns-in_err-add_letter-clause-does
returns-in_err-add_letter-clause-does g c = failed_does _ c.from_residual-in_err-add_letter.ensures.0 (failed_within _ c.from_residual-in_err-add_letter.ensures.0 c.in_err-add_letter.ensures.steps)
