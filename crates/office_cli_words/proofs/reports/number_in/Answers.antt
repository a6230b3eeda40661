use Rattle.office_cli_words.proofs.Numbers.{none_read, number_read}
use Rattle.office_cli_words.proofs.reports.number_in.Goals as goal

pub returns-in-Ok : goal.returns-in-Ok
returns-in-Ok c = number_read c.args.text.now c.in-Ok.number c.in-Ok.ensures.value.0 c.in-Ok.ensures.value.1

pub returns-in-Err : goal.returns-in-Err
returns-in-Err c = none_read c.args.text.now c.in-Err.ensures.value
