use Rattle.office_core_laws.proofs.MailedRuns.{items_printed}
use Rattle.office_core_laws.proofs.laws.printed_unstable_has_items.Goals as goal

pub returns : goal.returns
returns c = items_printed
