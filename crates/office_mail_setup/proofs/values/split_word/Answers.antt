use Rattle.deb_control.specs.Text.{is_white}
use Rattle.deb_control.proofs.Ends.{boundary_at_found}
use Rattle.deb_control.proofs.Trim.{white_is_ascii}
use Rattle.office_mail_setup.proofs.values.split_word.Goals as goal

pub split_at-requires : goal.split_at-requires
split_at-requires c = boundary_at_found is_white white_is_ascii c.args.text.now _ (rw c.as_bytes.ensures.value at c.in-Some.ensures)
