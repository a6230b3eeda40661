use Rattle.std.proofs.Common.{◌≡◌, ◌+◌, ◌≤◌, false}
use Rattle.office_mail.specs.BagSteps.{CountsEach}
use Rattle.office_core.specs.Preserves.{Preserves, Holds, StoreRefused}
use Rattle.office_core_replay.specs.steps.DeliverySteps.{Delivers}
use Rattle.office_core_facts.specs.State.{state_of}
use Rattle.office_core_replay.proofs.replays.deliver_each.Given as goal

abbrev pub invariant-loop-text : goal.invariant-loop-text
invariant-loop-text g l = record {
  carries : Preserves g.K.Keeper l.fn.office l.office;
  so_far : Holds g.K.Keeper l.fn.office l.office → Delivers (state_of g.K.Keeper l.fn.office) (state_of g.K.Keeper l.office) l.fn.bag l.bag (g.W.Sink.written l.fn.writer) (g.W.Sink.written l.writer) l.lost (StoreRefused g.K.Keeper l.fn.office l.office);
  open_yet : l.bag.ended ≡ false;
  reads : l.bag.failures ≡ l.fn.bag.failures;
  calls : l.bag.calls + l.fn.bag.reads ≤ l.fn.bag.calls + l.bag.reads;
  counts : CountsEach l.fn.bag l.bag;
  failures : g.W.Sink.failures l.writer ≡ g.W.Sink.failures l.fn.writer;
}

abbrev pub decreases-loop-text : goal.decreases-loop-text
decreases-loop-text g l = l.bag.room
