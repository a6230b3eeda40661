use Rattle.std.proofs.Common.{◌≡◌, ◌-◌, ◌≤◌}
use Rattle.office_core.specs.Preserves.{Holds}
use Rattle.office_core_queries.specs.steps.Numbers.{IsCountSoFar}
use Rattle.office_core_queries.proofs.AskFacts.{Asked}
use Rattle.office_core_queries.proofs.mail.count_mail.Given as goal

abbrev pub invariant-loop-number : goal.invariant-loop-number
invariant-loop-number g l = record {
  asked : Asked g.K.Keeper l.fn.office l.office;
  few : l.counted.greatest ≤ 999_999_999;
  sender : l.counted.sender ≡ l.sender;
  count : l.counted.count ≤ l.counted.greatest;
  unbroken : l.counted.unbroken ≤ l.counted.greatest;
  so_far : Holds g.K.Keeper l.fn.office l.office → IsCountSoFar (g.K.Keeper.content l.fn.office).kept l.counted;
}

abbrev pub decreases-loop-number : goal.decreases-loop-number
decreases-loop-number g l = 999_999_999 - l.counted.greatest
