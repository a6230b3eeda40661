use Rattle.std.proofs.Common.{arith, sym, subst, ◌∙◌, ◌+◌, []}
use Rattle.std.specs.Vec.Iter.{into_iter_items}
use Rattle.std.proofs.lemmas.List.{nil_from_length}
use Rattle.testing_rules_suites.proofs.Extending.{AreExtendedTo, left_first, extended_none, extended_more, extended_all}
use Rattle.testing_rules_suites.proofs.carried_suites.extended.Goals as goal

pub loop-suite-init : goal.loop-suite-init
loop-suite-init c =
    let olds = c.args.suites.items in
    let pool = c.args.pool.now in
    let from = c.args.from in
    subst (λ news. AreExtendedTo olds news (into_iter_items c.into_iter-suite-iterator.result) pool from 0) (sym c.in_ok-extended.ensures.items)
    (subst (λ rest. AreExtendedTo olds [] rest pool from 0) (sym c.into_iter-suite-iterator.ensures.into_iter_gives.0) (extended_none olds pool from))

pub with_rows-requires-clause-over : goal.with_rows-requires-clause-over
with_rows-requires-clause-over c =
    let left = sym c.in-Some.ensures.steps.0 ∙ c.loop-suite.invariant.left in
    c.requires.over.each c.loop-suite.arch c.in-Some.suite (left_first c.args.suites.items c.loop-suite.arch c.in-Some.suite (into_iter_items c.next.new.self) left)

pub loop-suite-preserved : goal.loop-suite-preserved
loop-suite-preserved c =
    let olds = c.args.suites.items in
    let pool = c.args.pool.now in
    let from = c.args.from in
    let rest = into_iter_items c.next.new.self in
    let arch = c.loop-suite.arch in
    let news = c.loop-suite.extended.items in
    let here = subst (λ xs. AreExtendedTo olds news xs pool from arch) c.in-Some.ensures.steps.0 c.loop-suite.invariant in
    subst (λ xs. AreExtendedTo olds xs rest pool from (arch + 1)) (sym c.in_ok-push.ensures.items)
    (extended_more olds news rest pool from arch c.in-Some.suite c.in_ok-with_rows.field-0 here c.in_ok-with_rows.ensures.suite)

pub returns-clause-count : goal.returns-clause-count
returns-clause-count c =
    let olds = c.args.suites.items in
    let pool = c.args.pool.now in
    let from = c.args.from in
    let arch = c.loop-suite.arch in
    let news = c.loop-suite.extended.items in
    let left = c.loop-suite.suite-iterator in
    let none = nil_from_length (into_iter_items left) (omega (arith, left.rest.ok.0, c.in-None.ensures.steps.0)) in
    extended_all olds news pool from arch (subst (λ xs. AreExtendedTo olds news xs pool from arch) none c.loop-suite.invariant)

pub returns-clause-each : goal.returns-clause-each
returns-clause-each c = c.loop-suite.invariant.each
