use Rattle.std.proofs.Common.{◌≡◌, ◌^◌, ◌<◌, true, sym, ap, ◌∙◌}
use Rattle.office_mail_setup.specs.Values.{is_number}
use Rattle.office_mail_setup.proofs.NumberFacts.{number_ok, number_err}
use Rattle.office_mail_setup.proofs.values.number_in.Goals as goal

pub returns-in-Ok : goal.returns-in-Ok
returns-in-Ok c =
    let is : is_number c.args.text.now ≡ true = ap is_number (sym c.as_bytes.ensures.value) ∙ sym c.is_number.ensures ∙ c.if-not-is_number.false in
    c.within.ensures ∙ number_ok c.args.text.now c.args.low c.args.high _ is c.in-Ok.ensures.value.1

pub returns-in-Err : goal.returns-in-Err
returns-in-Err c =
    let is : is_number c.args.text.now ≡ true = ap is_number (sym c.as_bytes.ensures.value) ∙ sym c.is_number.ensures ∙ c.if-not-is_number.false in
    let small : c.args.high < 2 ^ 32 = c.ranges.high.fits in
    number_err c.args.text.now c.args.low c.args.high is small c.in-Err.ensures.value
