use Rattle.std.proofs.Common.{arith}
use Rattle.office_store.proofs.store.open_store.Goals as goal

pub returns-clause-finds : goal.returns-clause-finds
returns-clause-finds g c trusted =
    let early = (c.in_ok-tables.ensures.before trusted).0 in
    record { was = c.in_ok-conn.conn; opened = c.in_ok-conn.ensures.opened early; found = c.in_ok-conn.ensures.found early; office = c.in_ok-tables.ensures.opened trusted }

pub returns-clause-opens : goal.returns-clause-opens
returns-clause-opens g c clean =
    let opened = c.in_ok-conn.ensures.opened (omega (arith, c.in_ok-tables.ensures.lasts.clean, clean)) in
    record {
      was = c.in_ok-conn.conn;
      opened = opened;
      found = c.in_ok-conn.ensures.found (omega (arith, c.in_ok-tables.ensures.lasts.clean, clean));
      taken = c.in_ok-tables.ensures.takes;
      trusted = c.in_ok-tables.ensures.stays clean ((omega (arith, c.in_ok-tables.ensures.lasts.clean, clean)), opened.0.is_open, c.in_ok-conn.ensures.fresh.unlimited);
    }
