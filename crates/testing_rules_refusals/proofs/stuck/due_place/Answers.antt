use Rattle.std.proofs.Common.{◌∙◌, ap, subst}
use Rattle.std.proofs.lemmas.Option.{IfSome_then}
use Rattle.testing_rules_items.specs.Words.{Text}
use Rattle.testing_rules_model.specs.Boxed.{unboxed}
use Rattle.testing_rules_model.specs.JudgedRows.{lent}
use Rattle.testing_rules_model.specs.Moves.{judged_on}
use Rattle.testing_rules_suites.specs.steps.JudgedRows.{answers}
use Rattle.testing_rules_refusals.specs.steps.Standing.{IsOwnAt, IsStayingAt}
use Rattle.testing_rules_refusals.proofs.Blocks.{own_due, staying_due}
use Rattle.testing_rules_refusals.proofs.stuck.due_place.Goals as goal

pub returns-in-Some : goal.returns-in-Some
returns-in-Some c =
    let a = c.args in
    let g = a.input.now in
    let s = a.suspect.now in
    let rows = lent a.rows.now in
    let place = c.in-Some.place in
    own_due (unboxed g.unstable.sources.now) (lent g.unstable.rows.now) a.live.now g.testing.now s.name (record { arch = s.arch; «package» = s.«package» }) rows place c.requires.rows
    (subst (λ (p : Text). IsOwnAt s.arch p rows s.name place) c.as_str-package.ensures
    (subst (λ (n : Text). IsOwnAt s.arch c.as_str-package.result.now rows n place) c.as_str.ensures c.in-Some.ensures))

pub returns : goal.returns
returns c =
    let a = c.args in
    let g = a.input.now in
    let s = a.suspect.now in
    let rows = lent a.rows.now in
    let before = ap answers c.deref.ensures.value ∙ c.in_ok-before.ensures ∙ ap (judged_on s.arch) c.requires.old in
    IfSome_then c.staying_place.result c.staying_place.ensures
    (λ place w.
    staying_due (unboxed g.unstable.sources.now) (lent g.unstable.rows.now) a.live.now g.testing.now s.name (record { arch = s.arch; «package» = s.«package» }) rows place c.requires.rows
    (answers c.deref.result.now) (lent a.coming.now) before c.requires.coming
    (subst (λ (p : Text). IsStayingAt s.arch p rows (answers c.deref.result.now) a.live.now (lent a.coming.now) place) c.as_str-package.ensures w))
