use Rattle.office_core_check.proofs.UnreadFacts.{asks_by, asks_then, readable_then}
use Rattle.office_core_check.specs.steps.Unread.{Asks}
use Rattle.office_core_check.proofs.unread.unread_finished.Goals as goal

pub returns : goal.returns
returns g c = record {
  none = λ trusted so.
      let keeper = g.K.Keeper in
      let first : Asks keeper c.args.keeper.now c.finished.new.self = asks_by keeper c.args.keeper.now c.finished.new.self c.finished.result c.finished.ensures.reads in
      let second = c.unread_runs.ensures in
      second.none trusted (readable_then keeper c.args.keeper.now c.finished.new.self first (second.asks.before trusted) so);
  asks =
      let keeper = g.K.Keeper in
      let first : Asks keeper c.args.keeper.now c.finished.new.self = asks_by keeper c.args.keeper.now c.finished.new.self c.finished.result c.finished.ensures.reads in
      asks_then keeper c.args.keeper.now c.finished.new.self c.unread_runs.new.keeper first c.unread_runs.ensures.asks;
}
