use Rattle.std.proofs.Common.{rules}
use Rattle.sqlite.specs.Held.{state}
use Rattle.office_store_tables.proofs.CreateLemmas.{makes_all}
use Rattle.office_store_tables.proofs.schema.create_all.Goals as goal

pub returns : goal.returns
returns g c = record {
  same_reference = search rules;
  before = search rules;
  lasts = search rules;
  stays = search rules;
  made = λ trusted.
      let six = c.in_ok-made.ensures.before trusted in
      let five = c.in_ok-_facts.ensures.before six in
      let four = c.in_ok-_rows.ensures.before five in
      let three = c.in_ok-_sources.ensures.before four in
      let two = c.in_ok-_runs.ensures.before three in
      let one = c.in_ok-_mail.ensures.before two in
      makes_all (state g.S.Store c.args.tx.now.conn.now) (state g.S.Store c.create_office.new.tx.conn.now) (state g.S.Store c.create_mail.new.tx.conn.now) (state g.S.Store c.create_run.new.tx.conn.now)
      (state g.S.Store c.create_testing_source.new.tx.conn.now) (state g.S.Store c.create_testing_row.new.tx.conn.now) (state g.S.Store c.create_fact.new.tx.conn.now) (state g.S.Store c.create_fact_delays.new.tx.conn.now)
      (c.in_ok-_office.ensures.made one) (c.in_ok-_mail.ensures.made two) (c.in_ok-_runs.ensures.made three) (c.in_ok-_sources.ensures.made four) (c.in_ok-_rows.ensures.made five) (c.in_ok-_facts.ensures.made six) (c.in_ok-made.ensures.made trusted);
  err = search rules;
}
