use Rattle.office_core_check.proofs.UnreadFacts.{asks_then, named, readable_then}
use Rattle.office_core_check.proofs.unread.unread_left.Goals as goal

pub returns-then-is_some : goal.returns-then-is_some
returns-then-is_some g c = record {
  none = λ trusted so. named c.unread_testing-part.result c.is_some.result c.is_some.ensures c.if-is_some.true (c.unread_testing-part.ensures.none trusted so);
  asks = c.unread_testing-part.ensures.asks;
}

pub returns : goal.returns
returns g c = record {
  none = λ trusted so.
      let second = c.unread_facts.ensures in
      second.none trusted (readable_then g.K.Keeper c.args.keeper.now c.unread_testing-part.new.keeper c.unread_testing-part.ensures.asks (second.asks.before trusted) so);
  asks = asks_then g.K.Keeper c.args.keeper.now c.unread_testing-part.new.keeper c.unread_facts.new.keeper c.unread_testing-part.ensures.asks c.unread_facts.ensures.asks;
}
