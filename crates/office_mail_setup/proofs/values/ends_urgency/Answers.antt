use Rattle.std.proofs.Common.{rules}
use Rattle.office_mail_setup.proofs.values.ends_urgency.Goals as goal

pub returns-then-c-eq32 : goal.returns-then-c-eq32
returns-then-c-eq32 c = search rules

pub returns-else-c-eq32 : goal.returns-else-c-eq32
returns-else-c-eq32 c = search rules
