use Rattle.std.proofs.Common.{◌≡◌, ◌++◌, List, subst}
use Rattle.std.specs.Prelude.{OnOk}
use Rattle.testing_rules_model.specs.JudgedRows.{lent}
use Rattle.testing_rules_model.specs.declared.suite.RowIn.{RowIn}
use Rattle.testing_rules_facts.proofs.Elsewhere.{none_there, all_come}
use Rattle.testing_rules_facts.proofs.built.push_ordered.Goals as goal

pub returns-then-are_elsewhere : goal.returns-then-are_elsewhere
returns-then-are_elsewhere c =
    none_there (lent c.args.rows.now.items) c.args.passing.now c.args.builds.now c.args.place c.args.arch.now (c.are_elsewhere.ensures c.if-are_elsewhere.true)

pub returns-then-are_there : goal.returns-then-are_there
returns-then-are_there c =
    subst (λ (come : List RowIn). OnOk c.push_passing.result (lent c.push_passing.new.rows.items ≡ lent c.args.rows.now.items ++ come))
    (all_come c.args.passing.now c.args.builds.now c.args.place c.args.arch.now (c.are_there.ensures c.if-are_there.true)) c.push_passing.ensures
