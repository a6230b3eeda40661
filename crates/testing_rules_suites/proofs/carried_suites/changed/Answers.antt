use Rattle.std.proofs.Common.{arith, ◌≡◌, ◌∙◌, sym, ap, subst, Some, ◌<◌, length}
use Rattle.std.specs.List.{slice_get}
use Rattle.std.proofs.lemmas.Option.{slice_get-get_or}
use Rattle.testing_rules_suites.specs.steps.ArchRows.{IsAfter}
use Rattle.testing_rules_suites.proofs.Suites.{changed_none, changed_more, changed_all, suite_after}
use Rattle.testing_rules_suites.proofs.carried_suites.changed.Goals as goal

pub loop-arch-init : goal.loop-arch-init
loop-arch-init c = changed_none c.args.suites.items c.args.change.now.leaving.items c.args.change.now.coming.items

pub loop-arch-preserved : goal.loop-arch-preserved
loop-arch-preserved c =
    let suites = c.loop-arch.suites.items in
    let suite = c.index_mut-suite.result.now in
    let new = c.change.new.self in
    let arch = c.loop-arch.arch in
    let leaving = c.args.change.now.leaving.items in
    let coming = c.args.change.now.coming.items in
    let below : arch < length suites = omega (arith, c.loop-arch-test.true, c.requires, c.loop-arch.invariant.count) in
    let at : slice_get suites arch ≡ Some suite = slice_get-get_or suites arch suite below ∙ ap Some (sym c.index_mut-suite.ensures.value) in
    let after = subst (λ ks. IsAfter suite ks coming new.suite.there) c.deref.ensures (subst (λ ks. IsAfter suite c.deref.result.now ks new.suite.there) c.deref-in-loop-arch.ensures c.in_ok-change.ensures.there) in
    changed_more c.args.suites.items suites leaving coming arch c.loop-arch.invariant suite new at
    (λ pool. suite_after arch pool suite new leaving coming c.in_ok-change.ensures.places c.in_ok-change.ensures.rows after)

pub returns-clause-each : goal.returns-clause-each
returns-clause-each c =
    changed_all c.args.suites.items c.loop-arch.suites.items c.args.change.now.leaving.items c.args.change.now.coming.items c.loop-arch.arch c.loop-arch.invariant
    (omega (arith, c.loop-arch-test.false, c.requires))
