use Rattle.std.proofs.Common.{◌≡◌, ◌-◌, ◌≤◌}
use Rattle.office_core.specs.Preserves.{Holds}
use Rattle.office_core_queries.proofs.AskFacts.{Asked}
use Rattle.office_core_queries.proofs.PartFacts.{part_behind}
use Rattle.office_core_queries.proofs.parts.push_part.Given as goal

abbrev pub invariant-loop-letter : goal.invariant-loop-letter
invariant-loop-letter g l = record {
  asked : Asked g.K.Keeper l.fn.office l.office;
  few : l.last ≤ 999_999_999;
  part : Holds g.K.Keeper l.fn.office l.office → part_behind (g.K.Keeper.content l.fn.office).kept l.sender l.last l.bag.items ≡ part_behind (g.K.Keeper.content l.fn.office).kept l.sender l.behind l.fn.bag.items;
}

abbrev pub decreases-loop-letter : goal.decreases-loop-letter
decreases-loop-letter g l = 999_999_999 - l.last
