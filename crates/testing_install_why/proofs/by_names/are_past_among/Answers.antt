use Rattle.std.proofs.Common.{get_or, refl}
use Rattle.std.proofs.lemmas.List.{get_or_default}
use Rattle.testing_install.specs.Rows.{binaries}
use Rattle.testing_install.proofs.Places.{read_more}
use Rattle.testing_install_why.specs.steps.Checking.{IsPast}
use Rattle.testing_install_why.proofs.by_names.are_past_among.Goals as goal

pub loop-number-preserved : goal.loop-number-preserved
loop-number-preserved c =
    let numbers = c.args.numbers.now in
    let i = c.loop-number.number-index in
    let at = get_or_default numbers i 0 (get_or numbers i 0) c.loop-number-test.true in
    read_more (IsPast (binaries c.args.rows.now) c.args.steps.now c.args.binary.now c.args.place) numbers numbers i (get_or numbers i 0) refl c.loop-number-test.true at c.loop-number.invariant (c.is_past_by.ensures c.if-not-is_past_by.false)
