use Rattle.std.proofs.Common.{◌≡◌, ◌<◌, ◌+◌, ◌≤◌, false}
use Rattle.std.specs.Prelude.{vec_capacity}
use Rattle.office_mail.specs.BagSteps.{CountsEach}
use Rattle.office_core.specs.Preserves.{Preserves, Holds, StoreRefused}
use Rattle.office_core_replay.specs.steps.DeliverySteps.{Delivers}
use Rattle.office_core_facts.specs.State.{state_of}
use Rattle.office_core_replay.proofs.blocks.deliver_blocks.Given as goal

abbrev pub invariant-rounds : goal.invariant-rounds
invariant-rounds g l = record {
  carries : Preserves g.K.Keeper l.fn.office l.office;
  so_far : Holds g.K.Keeper l.fn.office l.office → Delivers (state_of g.K.Keeper l.fn.office) (state_of g.K.Keeper l.office) l.fn.bag l.bag (g.W.Sink.written l.fn.writer) (g.W.Sink.written l.writer) l.lost (StoreRefused g.K.Keeper l.fn.office l.office);
  room : 0 < vec_capacity l.texts;
  open_yet : l.bag.ended ≡ false;
  reads : l.bag.failures ≡ l.fn.bag.failures;
  calls : l.bag.calls + l.fn.bag.reads ≤ l.fn.bag.calls + l.bag.reads;
  counts : CountsEach l.fn.bag l.bag;
  failures : g.W.Sink.failures l.writer ≡ g.W.Sink.failures l.fn.writer;
}

abbrev pub decreases-rounds : goal.decreases-rounds
decreases-rounds g l = l.bag.room
