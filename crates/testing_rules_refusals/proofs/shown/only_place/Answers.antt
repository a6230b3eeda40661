use Rattle.testing_rules_refusals.proofs.Sole.{only_of}
use Rattle.testing_rules_refusals.proofs.shown.only_place.Goals as goal

pub returns : goal.returns
returns c = only_of c.args.rows.now c.args.name.now c.in-Some.place c.in-Some.ensures (c.is_only.ensures c.if-not-is_only.false)
