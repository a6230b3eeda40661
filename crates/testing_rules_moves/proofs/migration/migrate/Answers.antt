use Rattle.std.proofs.Common.{sym, ap, subst}
use Rattle.testing_rules_model.specs.Suite.{Suite}
use Rattle.testing_rules_model.specs.Unstable.{built_rows}
use Rattle.testing_rules_model.specs.Updates.{Outcome}
use Rattle.testing_rules_model.specs.Watched.{AllWatchedWork}
use Rattle.testing_rules_model.proofs.Stays.{update-keeps}
use Rattle.testing_rules_moves.proofs.migration.migrate.Goals as goal

pub returns-clause-watched : goal.returns-clause-watched
returns-clause-watched c = λ h.
    let archs = c.args.archs.now in
    let facts = c.args.facts.now in
    let before = c.take_kept-kept.new.self in
    let here = subst (λ (t : Suite). AllWatchedWork archs t.rows) (sym c.take_kept-kept.ensures.same) h in
    let after = ap (λ (o : Outcome). o.suite) c.in_ok-decisions.ensures in
    subst (λ (t : Suite). AllWatchedWork archs t.rows) (sym after)
    (update-keeps archs facts.sources (built_rows archs facts.rows) facts.hints facts.unhints c.as_slice.result.now before here)
