use Rattle.std.proofs.Common.{◌≡◌, sym, ◌∙◌, arith, length}
use Rattle.std.proofs.lemmas.List.{nil_from_length}
use Rattle.office_mail_setup.proofs.NoSetup.{setup_none}
use Rattle.office_mail_setup.proofs.setup_read.setup_in.Goals as goal

pub returns : goal.returns
returns c =
    let none : length c.as_slice.result.now ≡ 0 = omega (arith, c.in-empty.len_below) in
    setup_none c.args.text.now _ c.in_ok-paragraphs.ensures (sym c.as_slice.ensures.value ∙ nil_from_length _ none)
