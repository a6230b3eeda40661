use Rattle.testing_install.proofs.Reviving.{revived_one}
use Rattle.std.proofs.Common.{arith}
use Rattle.testing_install.specs.Closed.{marked}
use Rattle.testing_install.proofs.change.revive_one.Goals as goal

pub returns-clause-revived : goal.returns-clause-revived
returns-clause-revived c = rw (c.in_ok-mark.ensures.marks, c.in_ok-mark.ensures.fresh) (revived_one (marked c.args.there.now) c.args.marks.now.current c.args.fresh.now.items c.args.place c.if-not-there-place.false (omega (arith, c.requires.place, c.requires.there)))
