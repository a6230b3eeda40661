use Rattle.office_core_check.proofs.CheckFacts.{counted_read, counted_unread, found_unread, found_was, lasts_read, lasts_unread, never_bad, whole_unread}
use Rattle.office_core_check.proofs.store_check.check.Goals as goal

pub returns-in-Ok-clause-found : goal.returns-in-Ok-clause-found
returns-in-Ok-clause-found g c = λ trusted.
    let keeper = g.K.Keeper in
    let read = c.in-Ok.ensures in
    found_was c.args.setup.now (keeper.content c.args.keeper.now) (keeper.is_legible c.args.keeper.now) (keeper.is_legible c.check_read.new.keeper) c.in-Ok.checked (read.looks.legible trusted) (read.found trusted)

pub returns-in-Ok-clause-lasts : goal.returns-in-Ok-clause-lasts
returns-in-Ok-clause-lasts g c = lasts_read g.K.Keeper c.args.keeper.now c.check_read.new.keeper c.in-Ok.checked c.in-Ok.ensures.end c.in-Ok.ensures.looks.lasts

pub returns-in-Ok-clause-counted : goal.returns-in-Ok-clause-counted
returns-in-Ok-clause-counted g c = counted_read (g.K.Keeper.refusals c.args.keeper.now) (g.K.Keeper.refusals c.check_read.new.keeper) c.in-Ok.checked c.in-Ok.ensures.end c.in-Ok.ensures.looks.counted

pub returns-in-Err-clause-found : goal.returns-in-Err-clause-found
returns-in-Err-clause-found g c = λ trusted.
    let told = c.tell_fault.ensures in
    found_unread g.K.Keeper c.args.setup.now c.args.keeper.now c.check_read.new.keeper c.in-Err.fault (told.asks.before trusted) c.in-Err.ensures.looks c.requires.lists (g.K.Keeper.is_legible c.tell_fault.new.keeper) c.tell_fault.result told.told (told.none trusted)

pub returns-in-Err-clause-whole : goal.returns-in-Err-clause-whole
returns-in-Err-clause-whole g c = λ trusted was office.
    let told = c.tell_fault.ensures in
    whole_unread g.K.Keeper c.args.setup.now c.args.keeper.now c.check_read.new.keeper c.in-Err.fault (told.asks.before trusted) c.in-Err.ensures.looks c.requires.lists c.tell_fault.result _ (told.none trusted) was office

pub returns-in-Err-clause-unread : goal.returns-in-Err-clause-unread
returns-in-Err-clause-unread g c = never_bad c.in-Err.fault c.tell_fault.result c.tell_fault.ensures.told

pub returns-in-Err-clause-lasts : goal.returns-in-Err-clause-lasts
returns-in-Err-clause-lasts g c = lasts_unread g.K.Keeper c.args.keeper.now c.check_read.new.keeper c.tell_fault.new.keeper c.in-Err.fault c.tell_fault.result c.tell_fault.ensures.told c.in-Err.ensures.looks.lasts c.tell_fault.ensures.asks

pub returns-in-Err-clause-counted : goal.returns-in-Err-clause-counted
returns-in-Err-clause-counted g c = counted_unread g.K.Keeper c.args.keeper.now c.check_read.new.keeper c.tell_fault.new.keeper c.in-Err.fault c.tell_fault.result c.tell_fault.ensures.told c.in-Err.ensures.looks.counted c.tell_fault.ensures.still c.tell_fault.ensures.asks
