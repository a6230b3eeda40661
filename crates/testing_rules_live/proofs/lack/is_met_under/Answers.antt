use Rattle.std.proofs.Common.{◌∙◌, sym, ap}
use Rattle.std.specs.List.{slice_get}
use Rattle.testing_rules_live.proofs.Unmet.{missed_under}
use Rattle.testing_rules_live.proofs.lack.is_met_under.Goals as goal

pub returns : goal.returns
returns c = λ off k r at b.
    let s = c.args.suites.now in
    missed_under c.args.arch s.rows s.stands c.args.clause.now c.args.name.now c.of_name.result.now
    (λ j q here borne. c.of_name.ensures.complete j q (ap (λ rs. slice_get rs j) c.pool.ensures ∙ here) borne) (sym c.is_met_among.ensures ∙ off) k r at b
