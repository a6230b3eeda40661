use Rattle.std.proofs.Common.{◌++◌, [], ◌∙◌, ap, arith, filter, map, not, option_to_list, sym, subst}
use Rattle.testing_rules_model.specs.Boxed.{unboxed}
use Rattle.testing_rules_model.specs.FactLists.{FactLists}
use Rattle.testing_rules_facts.specs.steps.Entries.{with_entry}
use Rattle.testing_rules_fact_order.specs.declared.entry.FactUpdate.TheVariants.{Dropped}
use Rattle.testing_rules_facts.proofs.Shifting.{dropped}
use Rattle.testing_rules_model.specs.FactOrder.{AreByPair}
use Rattle.testing_rules_model.specs.steps.FactOrder.{AreDropsByPair}
use Rattle.testing_rules_model.specs.steps.FactRows.{build_row, drop_row}
use Rattle.testing_rules_model.specs.WithMessage.{with_drop, with_greatest, outlives}
use Rattle.testing_rules_model.specs.declared.facts.DropIn.{DropIn}
use Rattle.testing_rules_model.specs.Unstable.{drop_pair, drop_order, pair_order}
use Rattle.testing_rules_facts.specs.steps.ElementShifts.{way_given, come_in}
use Rattle.testing_rules_facts.proofs.KeySlots.{by_pair-drop, drops_by_pair-drop}
use Rattle.testing_rules_facts.proofs.facts.Facts.take_drop.Goals as goal

pub invariant_of-self-2 : goal.invariant_of-self-2
invariant_of-self-2 c = (
  record {
    by_source = c.self.invariant.0.by_source;
    by_pair = subst AreByPair (sym c.take-left.ensures.rows) (by_pair-drop c.deref.result.now c.self.inside.rows c.self.invariant.0.by_pair);
    drops_by_pair = subst AreDropsByPair (sym (c.put_drop-shifted.ensures.items ∙ ap (λ ds. with_greatest c.in_ok-boxed.boxed.value (unboxed ds)) c.in_ok-reserve_with.ensures.items)) (drops_by_pair-drop c.in_ok-boxed.boxed.value (unboxed c.self.inside.drops.items) c.self.invariant.0.drops_by_pair);
    by_number = c.self.invariant.0.by_number;
  },
  omega (arith, c.note.ensures.len_left, c.note.ensures.capacity_left, c.note-2.ensures.len_left, c.note-2.ensures.capacity_left, c.in_ok-reserve_with.ensures.room_left, c.len.ensures),
  c.self.invariant.2,
  c.self.invariant.3,
  c.self.invariant.4,
)

pub returns-clause-ok : goal.returns-clause-ok
returns-clause-ok c =
    let lists : FactLists = record {
      sources = unboxed c.self.inside.sources.items;
      uploads = c.self.inside.uploads.items;
      rows = c.self.inside.rows;
      drops = unboxed c.self.inside.drops.items;
      bugs = unboxed c.self.inside.bugs.items;
      hints = c.self.inside.hints.items;
      unhints = c.self.inside.unhints.items;
      delays = c.self.inside.delays;
      came = c.self.inside.log.came.items;
      left = c.self.inside.log.left.items;
    } in
    let way = option_to_list c.put_drop-shifted.result.left in
    let own = option_to_list c.put_drop-shifted.result.came in
    let taken = option_to_list c.take-left.result in
    dropped lists c.args.drop c.in_ok-boxed.boxed.value c.take-left.new.self (unboxed c.put_drop-shifted.new.drops.items) c.note-2.new.self.came.items c.note-2.new.self.left.items taken way own
    c.in_ok-boxed.ensures.ok
    (c.take-left.ensures.rows ∙ ap (λ (d : DropIn). with_drop d lists.rows) (c.deref.ensures ∙ c.in_ok-boxed.ensures.ok))
    (c.put_drop-shifted.ensures.items ∙ ap (λ ds. with_greatest c.in_ok-boxed.boxed.value (unboxed ds)) c.in_ok-reserve_with.ensures.items)
    (c.note-2.ensures.came ∙ ap (λ l. l ++ own) (c.note.ensures.came ∙ ap (λ l. l ++ []) c.in_ok-reserve_with.ensures.came))
    (c.note-2.ensures.left ∙ ap (λ l. l ++ way) (c.note.ensures.left ∙ ap (λ l. l ++ taken) c.in_ok-reserve_with.ensures.left))
    (c.take-left.ensures.gone ∙ ap (λ (d : DropIn). map build_row (filter (λ b. not (outlives d b)) lists.rows)) (c.deref.ensures ∙ c.in_ok-boxed.ensures.ok))
    (c.put_drop-shifted.ensures.shift.left ∙ ap (λ ds. map drop_row (way_given drop_pair pair_order drop_order c.in_ok-boxed.boxed.value (unboxed ds))) c.in_ok-reserve_with.ensures.items ∙ ap (λ (d : DropIn). map drop_row (way_given drop_pair pair_order drop_order d lists.drops)) c.in_ok-boxed.ensures.ok)
    (c.put_drop-shifted.ensures.shift.came ∙ ap (λ ds. map drop_row (come_in drop_pair pair_order drop_order c.in_ok-boxed.boxed.value (unboxed ds))) c.in_ok-reserve_with.ensures.items ∙ ap (λ (d : DropIn). map drop_row (come_in drop_pair pair_order drop_order d lists.drops)) c.in_ok-boxed.ensures.ok)
    ∙ ap (with_entry (Dropped c.args.drop)) c.self.view_is
