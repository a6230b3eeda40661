use Rattle.std.proofs.Common.{sym, ap, ◌∙◌, subst, ◌++◌, arith, ◌<◌, ◌≤◌, length, take, ℕ, codes}
use Rattle.std.specs.List.{enumerate_from, flat_map}
use Rattle.testing_rules_model.specs.InOrder.{AreByKey}
use Rattle.testing_rules_model.specs.JudgedRows.{lent}
use Rattle.testing_rules_model.specs.steps.Unstable.{built_on}
use Rattle.testing_rules_facts.specs.steps.SourceFilter.{passing_builds}
use Rattle.testing_rules_items.specs.Words.{Text}
use Rattle.testing_rules_model.proofs.BuiltOrder.{built-by_key}
use Rattle.testing_rules_model.proofs.BuiltRows.{built-more, built-last}
use Rattle.testing_rules_facts.proofs.built.rows_passing.Goals as goal

pub loop-place-preserved : goal.loop-place-preserved
loop-place-preserved c =
    let passing = c.args.passing.now in
    let builds = passing_builds passing c.args.builds.now in
    let archs = c.args.archs.now in
    let k = c.loop-place.place in
    let below : k < length archs = omega arith in
    let so_far = flat_map (built_on builds) (take k (enumerate_from 0 archs)) in
    c.in_ok-push_built_on.ensures
    ∙ ap (λ bs. lent c.loop-place.rows.items ++ built_on (passing_builds passing bs) (k, c.name.result.now)) c.blocks-blocks.ensures
    ∙ ap (λ xs. xs ++ built_on builds (k, c.name.result.now)) c.loop-place.invariant
    ∙ ap (λ t. so_far ++ built_on builds (k, t)) c.name.ensures
    ∙ sym (built-more builds archs k below (omega arith))

pub returns-clause-rows : goal.returns-clause-rows
returns-clause-rows c =
    let passing = c.args.passing.now in
    let builds = passing_builds passing c.args.builds.now in
    let archs = c.args.archs.now in
    let k = c.loop-place.place in
    let all : ℕ × Text = (16, codes "all") in
    c.in_ok-push_built_on-2.ensures
    ∙ ap (λ bs. lent c.loop-place.rows.items ++ built_on (passing_builds passing bs) all) c.blocks-blocks.ensures
    ∙ ap (λ xs. xs ++ built_on builds all) c.loop-place.invariant
    ∙ built-last builds archs all k (omega arith)

pub returns-clause-ordered : goal.returns-clause-ordered
returns-clause-ordered c = λ order.
    let passing = c.args.passing.now in
    let builds = passing_builds passing c.args.builds.now in
    let archs = c.args.archs.now in
    let k = c.loop-place.place in
    let few : length archs ≤ 16 = omega arith in
    let all : ℕ × Text = (16, codes "all") in
    let items =
    c.in_ok-push_built_on-2.ensures
    ∙ ap (λ bs. lent c.loop-place.rows.items ++ built_on (passing_builds passing bs) all) c.blocks-blocks.ensures
    ∙ ap (λ xs. xs ++ built_on builds all) c.loop-place.invariant
    ∙ built-last builds archs all k (omega arith) in
    subst AreByKey (sym items) (built-by_key archs builds few order)
