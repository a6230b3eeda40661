use Rattle.std.proofs.Common.{◌≤◌, length}
use Rattle.office_core.specs.Preserves.{Holds}
use Rattle.office_core_queries.specs.Mail.{AreMailCounts}
use Rattle.office_core_queries.proofs.AskFacts.{Asked}
use Rattle.office_core_queries.proofs.mail.mail_counts.Given as goal

abbrev pub invariant-senders : goal.invariant-senders
invariant-senders g l = record {
  asked : Asked g.K.Keeper l.fn.office l.office;
  within : l.sender ≤ length (g.K.Keeper.setup l.fn.office).senders;
  are : Holds g.K.Keeper l.fn.office l.office → AreMailCounts (g.K.Keeper.content l.fn.office).kept l.sender l.counts.items;
}
