use Rattle.office_core_check.proofs.UnreadFacts.{asks_then, named, readable_then}
use Rattle.office_core_check.proofs.unread.unread_part.Goals as goal

pub returns-then-is_some : goal.returns-then-is_some
returns-then-is_some g c = record {
  none = λ trusted so. named c.unread_before-part.result c.is_some.result c.is_some.ensures c.if-is_some.true (c.unread_before-part.ensures.none trusted so);
  asks = c.unread_before-part.ensures.asks;
}

pub returns : goal.returns
returns g c = record {
  none = λ trusted so.
      let second = c.unread_beside.ensures in
      second.none trusted (readable_then g.K.Keeper c.args.keeper.now c.unread_before-part.new.keeper c.unread_before-part.ensures.asks (second.asks.before trusted) so);
  asks = asks_then g.K.Keeper c.args.keeper.now c.unread_before-part.new.keeper c.unread_beside.new.keeper c.unread_before-part.ensures.asks c.unread_beside.ensures.asks;
}
