use Rattle.std.proofs.Common.{◌≡◌, ◌∙◌, sym, ap, subst, [], ◌<◌, ◌==◌, List, length, map, filter, not, arith}
use Rattle.std.proofs.lemmas.List.{get_or_default, get_or-set_same}
use Rattle.testing_rules_facts.specs.Blocks.{joined}
use Rattle.testing_rules_facts.specs.steps.Blocks.{AreBlocks, IsBlockFor}
use Rattle.testing_rules_model.specs.FactOrder.{AreByPair}
use Rattle.testing_rules_model.specs.steps.FactRows.{build_row}
use Rattle.testing_rules_model.specs.WithMessage.{with_drop, outlives}
use Rattle.testing_rules_model.specs.Unstable.{drop_pair}
use Rattle.testing_rules_items.specs.Words.{Text}
use Rattle.testing_rules_model.specs.declared.facts.BuildIn.{BuildIn}
use Rattle.testing_rules_facts.proofs.Blocking.{block-order, blocks-remove, blocks-gone, none-left, drop-some, drop-last}
use Rattle.testing_rules_facts.proofs.build_blocks.take_from.Goals as goal

pub take-gone-requires : goal.take-gone-requires
take-gone-requires c =
    let blocks = c.args.blocks.now.items in
    let i = c.block_for-place.result in
    let below : i < length blocks = rw c.deref.ensures.value at c.block_for-place.ensures.bound in
    subst AreByPair (get_or_default blocks i [] c.index_mut-block.result.now below ∙ sym c.index_mut-block.ensures.value) (block-order blocks c.requires.order i below)

pub returns-then-is_empty-2-clause-rows : goal.returns-then-is_empty-2-clause-rows
returns-then-is_empty-2-clause-rows c =
    let d = c.args.drop.now in
    let blocks = c.args.blocks.now.items in
    let i = c.block_for-place.result in
    let new = c.take-gone.new.self in
    let pair : (c.as_str.result.now, c.as_str-2.result.now) ≡ drop_pair d = cc in
    let at = subst (λ (bs : List (List BuildIn)). IsBlockFor (c.as_str.result.now, c.as_str-2.result.now) bs i) c.deref.ensures.value c.block_for-place.ensures in
    let place = subst (λ (p : Text × Text). IsBlockFor p blocks i) pair at in
    let read = c.index_mut-block.ensures.value ∙ get_or_default blocks i c.index_mut-block.result.now [] place.bound in
    let now = c.index.ensures ∙ get_or-set_same blocks i new c.index.result.now place.bound in
    let read_now = ap (λ (rows : List BuildIn). length rows) (sym now ∙ sym c.rows.ensures) in
    let none = none-left new (ap (λ n. n == 0) read_now ∙ sym c.is_empty-then-place-gt0.ensures ∙ c.if-is_empty-2.true) in
    ap joined c.remove.ensures.items ∙ drop-last d blocks i c.requires.order c.requires.filled place new none (c.take-gone.ensures.rows ∙ ap (with_drop d) read)

pub returns-then-is_empty-2-clause-filled : goal.returns-then-is_empty-2-clause-filled
returns-then-is_empty-2-clause-filled c =
    let blocks = c.args.blocks.now.items in
    let i = c.block_for-place.result in
    subst AreBlocks (sym c.remove.ensures.items) (blocks-remove blocks i c.take-gone.new.self (omega arith) c.requires.filled)

pub returns-else-place-gt0-clause-rows : goal.returns-else-place-gt0-clause-rows
returns-else-place-gt0-clause-rows c =
    let d = c.args.drop.now in
    let blocks = c.args.blocks.now.items in
    let i = c.block_for-place.result in
    let pair : (c.as_str.result.now, c.as_str-2.result.now) ≡ drop_pair d = cc in
    let at = subst (λ (bs : List (List BuildIn)). IsBlockFor (c.as_str.result.now, c.as_str-2.result.now) bs i) c.deref.ensures.value c.block_for-place.ensures in
    let place = subst (λ (p : Text × Text). IsBlockFor p blocks i) pair at in
    let read = c.index_mut-block.ensures.value ∙ get_or_default blocks i c.index_mut-block.result.now [] place.bound in
    drop-some d blocks i c.requires.order c.requires.filled place c.take-gone.new.self (c.take-gone.ensures.rows ∙ ap (with_drop d) read)

pub returns-then-is_empty-2-clause-gone : goal.returns-then-is_empty-2-clause-gone
returns-then-is_empty-2-clause-gone c =
    let d = c.args.drop.now in
    let blocks = c.args.blocks.now.items in
    let i = c.block_for-place.result in
    let pair : (c.as_str.result.now, c.as_str-2.result.now) ≡ drop_pair d = cc in
    let at = subst (λ (bs : List (List BuildIn)). IsBlockFor (c.as_str.result.now, c.as_str-2.result.now) bs i) c.deref.ensures.value c.block_for-place.ensures in
    let place = subst (λ (p : Text × Text). IsBlockFor p blocks i) pair at in
    let read = c.index_mut-block.ensures.value ∙ get_or_default blocks i c.index_mut-block.result.now [] place.bound in
    c.take-gone.ensures.gone ∙ ap (λ bs. map build_row (filter (λ b. not (outlives d b)) bs)) read
    ∙ sym (ap (map build_row) (blocks-gone d blocks i c.requires.order c.requires.filled place))

pub returns-else-place-gt0-clause-gone : goal.returns-else-place-gt0-clause-gone
returns-else-place-gt0-clause-gone c =
    let d = c.args.drop.now in
    let blocks = c.args.blocks.now.items in
    let i = c.block_for-place.result in
    let pair : (c.as_str.result.now, c.as_str-2.result.now) ≡ drop_pair d = cc in
    let at = subst (λ (bs : List (List BuildIn)). IsBlockFor (c.as_str.result.now, c.as_str-2.result.now) bs i) c.deref.ensures.value c.block_for-place.ensures in
    let place = subst (λ (p : Text × Text). IsBlockFor p blocks i) pair at in
    let read = c.index_mut-block.ensures.value ∙ get_or_default blocks i c.index_mut-block.result.now [] place.bound in
    c.take-gone.ensures.gone ∙ ap (λ bs. map build_row (filter (λ b. not (outlives d b)) bs)) read
    ∙ sym (ap (map build_row) (blocks-gone d blocks i c.requires.order c.requires.filled place))
