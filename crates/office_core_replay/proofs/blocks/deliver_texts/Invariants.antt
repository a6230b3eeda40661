use Rattle.std.proofs.Common.{◌≡◌, take}
use Rattle.office_core_replay.specs.Blocks.{DeliversTexts}
use Rattle.office_core.specs.Preserves.{Preserves, Holds, StoreRefused}
use Rattle.office_core_facts.specs.State.{state_of}
use Rattle.office_core_replay.proofs.blocks.deliver_texts.Given as goal

abbrev pub invariant-texts : goal.invariant-texts
invariant-texts g l = record {
  carries : Preserves g.K.Keeper l.fn.office l.office;
  so_far : Holds g.K.Keeper l.fn.office l.office → DeliversTexts (state_of g.K.Keeper l.fn.office) (state_of g.K.Keeper l.office) (take l.text-index l.texts) (g.W.Sink.written l.fn.writer) (g.W.Sink.written l.writer) l.lost (StoreRefused g.K.Keeper l.fn.office l.office);
  failures : g.W.Sink.failures l.writer ≡ g.W.Sink.failures l.fn.writer;
}
