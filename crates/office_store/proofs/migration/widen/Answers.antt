use Rattle.sqlite.specs.Held.{state}
use Rattle.office_store.proofs.MigrateLemmas.{widens}
use Rattle.office_store.proofs.migration.widen.Goals as goal

pub returns-clause-steps : goal.returns-clause-steps
returns-clause-steps g c =
    let made = c.in_ok-made.ensures in
    record {
      same_reference = made.same_reference;
      before = made.before;
      lasts = made.lasts;
      stays = made.stays;
      on = λ trusted. (widens (state g.S.Store c.args.tx.now.conn.now) (state g.S.Store c.create_fact_delays.new.tx.conn.now) (made.made trusted)).on;
      err = λ _. tt;
    }

pub returns-clause-widened : goal.returns-clause-widened
returns-clause-widened g c trusted = widens (state g.S.Store c.args.tx.now.conn.now) (state g.S.Store c.create_fact_delays.new.tx.conn.now) (c.in_ok-made.ensures.made trusted)
