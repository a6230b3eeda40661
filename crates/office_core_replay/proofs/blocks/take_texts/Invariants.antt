use Rattle.std.proofs.Common.{◌≡◌, ◌<◌, ◌≤◌, ◌+◌, false}
use Rattle.std.specs.Prelude.{vec_len, vec_capacity}
use Rattle.office_mail.specs.BagSteps.{CountsEach}
use Rattle.office_core_replay.specs.steps.BlockSteps.{TakesTexts}
use Rattle.office_core_replay.proofs.blocks.take_texts.Given as goal

abbrev pub invariant-messages : goal.invariant-messages
invariant-messages g l = record {
  took : TakesTexts l.fn.bag l.bag l.texts.items;
  room : vec_len l.texts < vec_capacity l.texts;
  capacity : vec_capacity l.texts ≡ vec_capacity l.fn.texts;
  open_yet : l.bag.ended ≡ false;
  smaller : l.bag.room ≤ l.fn.bag.room;
  failures : l.bag.failures ≡ l.fn.bag.failures;
  calls : l.bag.calls + l.fn.bag.reads ≤ l.fn.bag.calls + l.bag.reads;
  counts : CountsEach l.fn.bag l.bag;
}

abbrev pub decreases-messages : goal.decreases-messages
decreases-messages g l = l.bag.room
