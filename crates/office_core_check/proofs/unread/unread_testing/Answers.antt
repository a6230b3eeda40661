use Rattle.office_core_check.proofs.UnreadFacts.{asks_by, none_bad}
use Rattle.office_core_check.proofs.unread.unread_testing.Goals as goal

pub returns : goal.returns
returns g c = record {
  none = λ trusted so. none_bad c.part_of.result c.testing.result c.part_of.ensures (c.testing.ensures.reads.keeps.bad trusted so.0 so.1);
  asks = asks_by g.K.Keeper c.args.keeper.now c.testing.new.self c.testing.result c.testing.ensures.reads;
}
