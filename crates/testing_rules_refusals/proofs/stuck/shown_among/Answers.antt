use Rattle.std.proofs.Common.{◌∙◌, ap, subst}
use Rattle.std.specs.Prelude.{IfSome}
use Rattle.testing_rules_model.specs.Boxed.{unboxed}
use Rattle.testing_rules_model.specs.JudgedRows.{lent}
use Rattle.testing_install_why.specs.Certificate.{IsShownBy, everywhere}
use Rattle.testing_rules_refusals.specs.Needs.{packages}
use Rattle.testing_rules_refusals.specs.steps.Standing.{IsDueAt}
use Rattle.testing_rules_refusals.proofs.Blocks.{block_found}
use Rattle.testing_rules_refusals.proofs.Leaving.{stand_on}
use Rattle.testing_rules_refusals.proofs.stuck.shown_among.Goals as goal

pub due_place-requires-clause-coming : goal.due_place-requires-clause-coming
due_place-requires-clause-coming c = ap lent c.deref-2.ensures.value ∙ c.in_ok-coming.ensures

pub due_place-requires-clause-rows : goal.due_place-requires-clause-rows
due_place-requires-clause-rows c =
    let a = c.args in
    let g = a.input.now in
    let s = a.suspect.now in
    ap lent c.deref-3.ensures.value
    ∙ stand_on (unboxed g.unstable.sources.now) (lent g.unstable.rows.now) a.live.now s.name c.requires.lives s.arch g.testing.now (lent c.in_ok-rows.rows.items) (lent g.rows.now)
    (lent c.deref.result.now) c.in_ok-rows.ensures c.requires.old (ap lent c.deref.ensures.value ∙ c.in_ok-coming.ensures)

pub returns : goal.returns
returns c =
    let a = c.args in
    let g = a.input.now in
    let s = a.suspect.now in
    let sources = unboxed g.unstable.sources.now in
    let unstable = lent g.unstable.rows.now in
    let rows = lent c.in_ok-rows.rows.items in
    let place = c.in-Some.place in
    let steps = c.in-Some-2.steps.items in
    let are =
    stand_on sources unstable a.live.now s.name c.requires.lives s.arch g.testing.now rows (lent g.rows.now)
    (lent c.deref.result.now) c.in_ok-rows.ensures c.requires.old (ap lent c.deref.ensures.value ∙ c.in_ok-coming.ensures) in
    let due = subst (λ o. IfSome o (λ p. IsDueAt sources unstable a.live.now g.testing.now s.name (record { arch = s.arch; «package» = s.«package» }) (lent c.deref-3.result.now) p)) c.in-Some.is c.in_ok-place.ensures in
    let shown = subst (λ o. IfSome o (λ f. IsShownBy (packages (lent c.deref-4.result.now)) everywhere place f.items)) c.in-Some-2.is c.in_ok-steps.ensures in
    block_found g.archs.now sources unstable a.live.now g.testing.now s.name s.arch s.«package» c.in_ok-package.package rows (lent c.deref-3.result.now) (lent c.deref-4.result.now) place steps
    c.in_key_order.ensures c.requires.lives c.requires.listed c.in_ok-package.ensures are (ap lent c.deref-3.ensures.value) due (ap lent c.deref-4.ensures.value) shown
