use Rattle.office_core_check.proofs.UnreadFacts.{asks_by, none_bad}
use Rattle.office_core_check.proofs.unread.unread_run.Goals as goal

pub returns : goal.returns
returns g c = record {
  none = λ trusted so. none_bad c.part_of.result c.reports.result c.part_of.ensures (c.reports.ensures.reads.keeps.bad trusted so.0 so.1);
  asks = asks_by g.K.Keeper c.args.keeper.now c.reports.new.self c.reports.result c.reports.ensures.reads;
}
