use Rattle.office_mail_setup.specs.Values.{ends_urgency}
use Rattle.deb_control.proofs.Ends.{boundary_at_found}
use Rattle.office_mail_setup.proofs.ByteFacts.{urgency_ends_in_ascii}
use Rattle.office_mail_setup.proofs.values.urgency_in.Goals as goal

pub split_at-requires : goal.split_at-requires
split_at-requires c = boundary_at_found ends_urgency urgency_ends_in_ascii c.args.text.now _ (rw c.as_bytes.ensures.value at c.in-Some.ensures)
