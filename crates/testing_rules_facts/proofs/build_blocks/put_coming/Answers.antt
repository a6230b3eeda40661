use Rattle.std.proofs.Common.{◌≡◌, ◌∙◌, sym, ap, subst, [], ◌+◌, ◌<◌, List, length, map, set, arith}
use Rattle.std.specs.List.{insert}
use Rattle.std.proofs.lemmas.List.{get_or_default, length-set}
use Rattle.testing_rules_facts.specs.Blocks.{joined}
use Rattle.testing_rules_facts.specs.steps.Blocks.{AreBlocks, IsBlockFor}
use Rattle.testing_rules_facts.specs.steps.ElementShifts.{way_given, come_in}
use Rattle.testing_rules_model.specs.FactOrder.{AreByPair}
use Rattle.testing_rules_model.specs.steps.FactRows.{build_row}
use Rattle.testing_rules_model.specs.WithMessage.{with_build}
use Rattle.testing_rules_model.specs.Unstable.{pair_of, pair_order, build_order}
use Rattle.testing_rules_items.specs.Words.{Text}
use Rattle.testing_rules_model.specs.declared.facts.BuildIn.{BuildIn}
use Rattle.testing_rules_facts.proofs.Blocking.{block-order, blocks-set, blocks-insert, blocks-shift, put-whole, put-halves}
use Rattle.testing_rules_facts.proofs.build_blocks.put_coming.Goals as goal

pub put-upper-requires-clause-order : goal.put-upper-requires-clause-order
put-upper-requires-clause-order c =
    let blocks = c.args.blocks.now.items in
    let i = c.block_near-place.result in
    let below : i < length blocks = rw c.deref.ensures.value at c.block_near-place.ensures.bound in
    subst AreByPair (get_or_default blocks i [] c.index_mut-block.result.now below ∙ sym c.index_mut-block.ensures.value) (block-order blocks c.requires.order i below)

pub returns-in-Some-clause-rows : goal.returns-in-Some-clause-rows
returns-in-Some-clause-rows c =
    let b = c.args.build in
    let blocks = c.args.blocks.now.items in
    let i = c.block_near-place.result in
    let new = c.put-upper.new.self in
    let pair : (c.as_str.result.now, c.as_str-2.result.now) ≡ pair_of b = cc in
    let at = subst (λ (bs : List (List BuildIn)). IsBlockFor (c.as_str.result.now, c.as_str-2.result.now) bs i) c.deref.ensures.value c.block_near-place.ensures in
    let place = subst (λ (p : Text × Text). IsBlockFor p blocks i) pair at in
    let read = c.index_mut-block.ensures.value ∙ get_or_default blocks i c.index_mut-block.result.now [] place.bound in
    let done : c.insert.new.self.items ≡ insert (set blocks i new) (i + 1) c.in-Some.upper = rw (c.insert.ensures.succeeds c.requires.room) at c.insert.ensures.items in
    ap joined done ∙ put-halves b blocks i c.requires.order c.requires.filled place new c.in-Some.upper ((rw c.in-Some.is at c.put-upper.ensures.rows) ∙ ap (with_build b) read)

pub returns-in-Some-clause-filled : goal.returns-in-Some-clause-filled
returns-in-Some-clause-filled c =
    let blocks = c.args.blocks.now.items in
    let i = c.block_near-place.result in
    let new = c.put-upper.new.self in
    let below : i < length blocks = rw c.deref.ensures.value at c.block_near-place.ensures.bound in
    let done : c.insert.new.self.items ≡ insert (set blocks i new) (i + 1) c.in-Some.upper = rw (c.insert.ensures.succeeds c.requires.room) at c.insert.ensures.items in
    let kept = blocks-set blocks i new c.requires.filled c.put-upper.ensures.lower in
    subst AreBlocks (sym done) (blocks-insert (set blocks i new) i c.in-Some.upper (omega (arith, below, length-set blocks i new)) kept (rw c.in-Some.is at c.put-upper.ensures.upper))

pub returns-in_default-clause-rows : goal.returns-in_default-clause-rows
returns-in_default-clause-rows c =
    let b = c.args.build in
    let blocks = c.args.blocks.now.items in
    let i = c.block_near-place.result in
    let pair : (c.as_str.result.now, c.as_str-2.result.now) ≡ pair_of b = cc in
    let at = subst (λ (bs : List (List BuildIn)). IsBlockFor (c.as_str.result.now, c.as_str-2.result.now) bs i) c.deref.ensures.value c.block_near-place.ensures in
    let place = subst (λ (p : Text × Text). IsBlockFor p blocks i) pair at in
    let read = c.index_mut-block.ensures.value ∙ get_or_default blocks i c.index_mut-block.result.now [] place.bound in
    put-whole b blocks i c.requires.order c.requires.filled place c.put-upper.new.self ((rw c.in_default.is at c.put-upper.ensures.rows) ∙ ap (with_build b) read)

pub returns-in-Some-clause-shift : goal.returns-in-Some-clause-shift
returns-in-Some-clause-shift c =
    let b = c.args.build in
    let blocks = c.args.blocks.now.items in
    let i = c.block_near-place.result in
    let pair : (c.as_str.result.now, c.as_str-2.result.now) ≡ pair_of b = cc in
    let at = subst (λ (bs : List (List BuildIn)). IsBlockFor (c.as_str.result.now, c.as_str-2.result.now) bs i) c.deref.ensures.value c.block_near-place.ensures in
    let place = subst (λ (p : Text × Text). IsBlockFor p blocks i) pair at in
    let read = c.index_mut-block.ensures.value ∙ get_or_default blocks i c.index_mut-block.result.now [] place.bound in
    let part = blocks-shift b blocks i c.requires.order c.requires.filled place in
    record {
      left = c.put-upper.ensures.shift.left ∙ ap (map build_row) (ap (way_given pair_of pair_order build_order b) read ∙ sym part.0);
      came = c.put-upper.ensures.shift.came ∙ ap (map build_row) (ap (come_in pair_of pair_order build_order b) read ∙ sym part.1);
    }

pub returns-in_default-clause-shift : goal.returns-in_default-clause-shift
returns-in_default-clause-shift c =
    let b = c.args.build in
    let blocks = c.args.blocks.now.items in
    let i = c.block_near-place.result in
    let pair : (c.as_str.result.now, c.as_str-2.result.now) ≡ pair_of b = cc in
    let at = subst (λ (bs : List (List BuildIn)). IsBlockFor (c.as_str.result.now, c.as_str-2.result.now) bs i) c.deref.ensures.value c.block_near-place.ensures in
    let place = subst (λ (p : Text × Text). IsBlockFor p blocks i) pair at in
    let read = c.index_mut-block.ensures.value ∙ get_or_default blocks i c.index_mut-block.result.now [] place.bound in
    let part = blocks-shift b blocks i c.requires.order c.requires.filled place in
    record {
      left = c.put-upper.ensures.shift.left ∙ ap (map build_row) (ap (way_given pair_of pair_order build_order b) read ∙ sym part.0);
      came = c.put-upper.ensures.shift.came ∙ ap (map build_row) (ap (come_in pair_of pair_order build_order b) read ∙ sym part.1);
    }
