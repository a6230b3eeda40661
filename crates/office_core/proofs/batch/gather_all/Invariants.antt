use Rattle.std.proofs.Common.{◌≡◌, length, take}
use Rattle.office_core.specs.steps.GatherSteps.{ArePlaced, Gathers}
use Rattle.office_core.specs.Together.{AreHeldHere}
use Rattle.office_core.specs.steps.Asked.{AreFreeFrom}
use Rattle.office_core_store.proofs.LookFacts.{Looked}
use Rattle.office_core.proofs.batch.gather_all.Given as goal

abbrev pub invariant-texts : goal.invariant-texts
invariant-texts g l = record {
  gathers : g.K.Keeper.is_trusted l.keeper → Gathers l.setup (g.K.Keeper.content l.fn.keeper).kept l.block.letters.items l.block.replies.items (take l.text-index l.texts);
  asked : g.K.Keeper.is_trusted l.keeper → AreFreeFrom (g.K.Keeper.content l.fn.keeper).kept l.asked.items;
  each : length l.block.replies.items ≡ l.text-index;
  placed : ArePlaced l.setup l.block.letters.items;
  places : AreHeldHere l.setup l.block.replies.items;
  looks : Looked g.K.Keeper l.fn.keeper l.keeper;
}
