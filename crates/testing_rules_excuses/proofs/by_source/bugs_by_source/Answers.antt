use Rattle.std.proofs.Common.{arith, ◌∙◌, sym, ap, ◌<◌, ◌≤◌, length, take, filter}
use Rattle.std.proofs.lemmas.List.{take_all}
use Rattle.std.specs.Str.{bytes_eq}
use Rattle.testing_rules_model.specs.Boxed.{unboxed}
use Rattle.testing_rules_model.specs.declared.facts.BugIn.{BugIn}
use Rattle.testing_rules_model.proofs.Unboxed.{unboxed-at, unboxed-length}
use Rattle.testing_rules_excuses.specs.steps.BySource.{slot_at, joined_by, is_among}
use Rattle.testing_rules_excuses.proofs.NewsGroups.{joined, group_of}
use Rattle.testing_rules_excuses.proofs.by_source.bugs_by_source.Goals as goal

pub loop-bug-preserved : goal.loop-bug-preserved
loop-bug-preserved c = λ q.
    let bs = c.args.bugs.now in
    let bugs = unboxed bs in
    let i = c.loop-bug.bug-index in
    let box = c.bug-item.result in
    let own = λ (x : BugIn). bytes_eq q x.source in
    let old = slot_at c.loop-bug.groups q in
    let below : i < length bs = omega arith in
    let low : i < length bugs = omega (arith, unboxed-length bs, below) in
    let read = c.deref.ensures ∙ sym (unboxed-at bs i box box.value below c.bug-item.is) in
    joined own bugs i box.value low (is_among c.args.news.now q) old (slot_at c.join_bug.new.groups q) (c.loop-bug.invariant q)
    (c.in_ok-join_bug.ensures q ∙ ap (λ (x : BugIn). joined_by (own x) x old) read)

pub returns : goal.returns
returns c = λ q among.
    let bs = c.args.bugs.now in
    let bugs = unboxed bs in
    let i = c.loop-bug.bug-index in
    let own = λ (x : BugIn). bytes_eq q x.source in
    let past : length bs ≤ i = omega arith in
    let all : length bugs ≤ i = omega (arith, unboxed-length bs, past) in
    group_of (is_among c.args.news.now q) (slot_at c.loop-bug.groups q) (filter own (take i bugs)) among (c.loop-bug.invariant q)
    ∙ ap (λ xs. filter own xs) (take_all i bugs all)
