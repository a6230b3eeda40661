use Rattle.std.proofs.Common.{◌≡◌, pos, to_z, w8, w16, sym, subst, arith}
use Rattle.office_mail_setup.specs.Calendar.{IsDay, IsOnly}
use Rattle.std.proofs.lemmas.Int.{to_z_pos}
use Rattle.office_mail_setup.proofs.DayFacts.{real_days, too_early}
use Rattle.office_mail_setup.proofs.values.real_day.Goals as goal

pub returns-then-year-lt1970 : goal.returns-then-year-lt1970
returns-then-year-lt1970 c = too_early c.args.year c.args.month c.args.day c.if-year-lt1970.true

pub returns : goal.returns
returns c =
    let y : to_z w16 c.args.year ≡ pos c.args.year = to_z_pos w16 c.args.year (omega (arith, c.requires.year)) in
    let m : to_z w8 c.args.month ≡ pos c.args.month = to_z_pos w8 c.args.month (omega (arith, c.requires.month)) in
    let d : to_z w8 c.args.day ≡ pos c.args.day = to_z_pos w8 c.args.day (omega (arith, c.requires.day)) in
    subst (IsOnly (IsDay c.args.year c.args.month c.args.day)) (sym c.ok.ensures.value) (real_days c.new.result c.args.year c.args.month c.args.day c.if-year-lt1970.false (rw (y, m, d) at c.new.ensures.succeeds) (rw (y, m, d) at c.new.ensures.value))
