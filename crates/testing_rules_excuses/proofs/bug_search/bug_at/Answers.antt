use Rattle.std.proofs.Common.{◌≡◌, arith, ◌∙◌, sym, ap, ◌<◌, length, get_or, ◌∷◌, []}
use Rattle.std.proofs.lemmas.Cmp.{nat_cmp_total}
use Rattle.testing_rules_model.specs.Boxed.{unboxed}
use Rattle.testing_rules_model.specs.declared.facts.BugIn.{BugIn}
use Rattle.testing_rules_model.proofs.KeyOrder.{searchable}
use Rattle.testing_rules_model.proofs.Unboxed.{unboxed-at, unboxed-length}
use Rattle.testing_rules_excuses.proofs.BugSearch.{bug-found, bug-missing}
use Rattle.testing_rules_excuses.proofs.bug_search.bug_at.Goals as goal

pub returns-in-Ok : goal.returns-in-Ok
returns-in-Ok c =
    let bs = c.args.bugs.now in
    let xs = unboxed bs in
    let i = c.in-Ok.place in
    let box = c.index-bugs-place.result in
    let e = box.value in
    let below : i < length bs = omega (arith, unboxed-length bs, c.in-Ok.ensures.bound) in
    let read : get_or xs i e ≡ c.deref-bug.result.now = unboxed-at bs i box e below c.index-bugs-place.is ∙ sym c.deref-bug.ensures in
    let one = bug-found c.args.number xs i e c.requires c.in-Ok.ensures.bound (c.in-Ok.ensures.found e) in
    sym (one ∙ ap (λ (b : BugIn). b ∷ []) read)

pub returns-in-Err : goal.returns-in-Err
returns-in-Err c =
    let xs = unboxed c.args.bugs.now in
    let number = c.args.number in
    let parts = c.in-Err.ensures.found (searchable (λ (b : BugIn). b.bug) nat_cmp_total xs c.requires number) in
    sym (bug-missing number xs c.in-Err.field-0 parts)
