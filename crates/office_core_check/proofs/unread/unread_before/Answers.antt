use Rattle.office_core_check.proofs.UnreadFacts.{asks_then, named, readable_then}
use Rattle.office_core_check.proofs.unread.unread_before.Goals as goal

pub returns-then-is_some : goal.returns-then-is_some
returns-then-is_some g c = record {
  none = λ trusted so. named c.unread_office-part.result c.is_some.result c.is_some.ensures c.if-is_some.true (c.unread_office-part.ensures.none trusted so);
  asks = c.unread_office-part.ensures.asks;
}

pub returns : goal.returns
returns g c = record {
  none = λ trusted so.
      let second = c.unread_mail.ensures in
      second.none trusted (readable_then g.K.Keeper c.args.keeper.now c.unread_office-part.new.keeper c.unread_office-part.ensures.asks (second.asks.before trusted) so);
  asks = asks_then g.K.Keeper c.args.keeper.now c.unread_office-part.new.keeper c.unread_mail.new.keeper c.unread_office-part.ensures.asks c.unread_mail.ensures.asks;
}
