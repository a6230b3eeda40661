use Rattle.std.proofs.Common.{List, subst}
use Rattle.std.specs.Prelude.{IfSome}
use Rattle.testing_rules_items.specs.Words.{Text}
use Rattle.testing_rules_model.specs.Boxed.{unboxed}
use Rattle.testing_rules_model.specs.JudgedRows.{lent}
use Rattle.testing_rules_refusals.specs.steps.Standing.{IsToldBlock}
use Rattle.testing_rules_refusals.proofs.Blocks.{more_blocks_told}
use Rattle.testing_rules_refusals.proofs.stuck.with_block_of.Goals as goal

pub returns : goal.returns
returns c =
    let a = c.args in
    let g = a.input.now in
    let archs = g.archs.now in
    let sources = unboxed g.unstable.sources.now in
    let unstable = lent g.unstable.rows.now in
    let t = g.testing.now in
    let name = a.suspect.now.name in
    let names = a.told.names.items in
    let block = c.in-Some.block in
    let found = subst (λ o. IfSome o (λ text. IsToldBlock archs sources unstable g.excuses.now t c.deref.result.now name text)) c.in-Some.is c.in_ok-block.ensures in
    let is = subst (λ (dead : List Text). IsToldBlock archs sources unstable g.excuses.now t dead name block) c.deref.ensures.value found in
    more_blocks_told archs sources unstable g.excuses.now t names c.in_ok-more.more.names.items name a.told.text block c.in_ok-more.more.text c.requires.told is
    c.in_ok-more.ensures.names c.in_ok-more.ensures.text
