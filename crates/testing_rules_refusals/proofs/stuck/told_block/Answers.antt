use Rattle.std.proofs.Common.{◌≡◌, ◌++◌, List, subst}
use Rattle.std.specs.Prelude.{IfSome}
use Rattle.testing_rules_items.specs.Words.{Text}
use Rattle.testing_rules_model.specs.Boxed.{unboxed}
use Rattle.testing_rules_model.specs.JudgedRows.{lent}
use Rattle.testing_rules_model.specs.Moves.{rows_on}
use Rattle.testing_rules_refusals.specs.steps.Standing.{IsBlockOf}
use Rattle.testing_rules_refusals.specs.Stuck.{stuck_line}
use Rattle.testing_rules_refusals.specs.Texts.{refusal_text}
use Rattle.testing_rules_refusals.specs.Told.{lines_of}
use Rattle.testing_rules_refusals.proofs.Blocks.{told_block}
use Rattle.testing_rules_refusals.proofs.stuck.told_block.Goals as goal

pub returns : goal.returns
returns c =
    let a = c.args in
    let g = a.input.now in
    let archs = g.archs.now in
    let sources = unboxed g.unstable.sources.now in
    let unstable = lent g.unstable.rows.now in
    let name = a.suspect.now.name in
    let live = c.in_ok-live.live.items in
    let r = c.in-Some.refusal in
    let found = subst (λ o. IfSome o (λ r. IsBlockOf archs sources unstable c.deref.result.now g.testing.now name r.offender (lent r.rows.items) r.steps.items)) c.in-Some.is c.in_ok-refusal.ensures in
    let w = subst (λ (ls : List Text). IsBlockOf archs sources unstable ls g.testing.now name r.offender (lent r.rows.items) r.steps.items) c.deref.ensures.value found in
    let Told : Text → List Text → Type 0 = λ n ls.
    c.in_ok-text.text ≡ stuck_line archs g.excuses.now (record { name = n; offender = r.offender; steps = r.steps.items })
    ++ refusal_text g.testing.now (record { archs = archs; sources = sources; excuses = g.excuses.now; coming = ls; stuck = a.dead.now })
    (lines_of (lent r.rows.items) r.steps.items (rows_on r.offender.arch (lent g.rows.now)) (rows_on r.offender.arch unstable)) in
    let told = subst (λ n. Told n live) c.as_str-name.ensures (subst (λ ls. Told c.as_str-name.result.now ls) c.deref-2.ensures.value c.in_ok-text.ensures) in
    told_block archs sources unstable g.excuses.now g.testing.now a.dead.now live name c.in_ok-text.text r.offender (lent r.rows.items) (lent g.rows.now) r.steps.items
    c.in_ok-live.ensures c.requires.old w told
