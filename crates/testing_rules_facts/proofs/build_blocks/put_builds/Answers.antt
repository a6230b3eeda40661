use Rattle.std.proofs.Common.{sym, ap, subst, ◌∙◌, arith, cond, ◌++◌}
use Rattle.testing_rules_model.specs.Boxed.{unboxed}
use Rattle.testing_rules_facts.specs.Blocks.{joined}
use Rattle.testing_rules_facts.specs.steps.ElementShifts.{shift_builds}
use Rattle.testing_rules_model.specs.FactOrder.{AreByPair}
use Rattle.testing_rules_model.specs.WithMessage.{with_build, with_builds}
use Rattle.testing_rules_model.specs.steps.WithMessage.{stands_beside}
use Rattle.testing_rules_model.proofs.BuildLists.{builds-last}
use Rattle.testing_rules_facts.proofs.KeySlots.{by_pair-build}
use Rattle.testing_rules_facts.proofs.ShiftLists.{came-next, left-next, came-passed, left-passed}
use Rattle.testing_rules_facts.proofs.build_blocks.put_builds.Goals as goal

pub builds-preserved-then-stands_beside : goal.builds-preserved-then-stands_beside
builds-preserved-then-stands_beside c =
    let p = stands_beside (unboxed c.args.drops.now) in
    let b = c.in-Some.next in
    let left = c.pop.new.self.items in
    let rows = joined c.builds.held.items in
    let stands = sym c.stands_beside.ensures ∙ c.if-stands_beside.true in
    let items = c.in-Some.ensures.items in
    record {
      rows =
          ap (with_builds p left) c.put_coming-shifted.ensures.rows
          ∙ ap (λ t. with_builds p left (cond t (with_build b rows) rows)) (sym stands)
          ∙ sym (builds-last p left b rows)
          ∙ ap (λ bs. with_builds p bs rows) (sym items)
          ∙ c.builds.invariant.rows;
      came = came-next p left b rows c.builds.log.came.items c.note.new.self.came.items (joined c.put_coming-shifted.new.blocks.items) (sym stands) c.put_coming-shifted.ensures.rows
          (c.note.ensures.came ∙ ap (λ t. c.builds.log.came.items ++ t) c.put_coming-shifted.ensures.shift.came)
          ∙ ap (λ bs. c.builds.log.came.items ++ (shift_builds p bs rows).came) (sym items)
          ∙ c.builds.invariant.came;
      gone = left-next p left b rows c.builds.log.left.items c.note.new.self.left.items (joined c.put_coming-shifted.new.blocks.items) (sym stands) c.put_coming-shifted.ensures.rows
          (c.note.ensures.left ∙ ap (λ t. c.builds.log.left.items ++ t) c.put_coming-shifted.ensures.shift.left)
          ∙ ap (λ bs. c.builds.log.left.items ++ (shift_builds p bs rows).left) (sym items)
          ∙ c.builds.invariant.gone;
      room_came = omega (arith, c.in-Some.ensures.len, c.note.ensures.len_came, c.note.ensures.capacity_came, c.builds.invariant.room_came);
      room_left = omega (arith, c.in-Some.ensures.len, c.note.ensures.len_left, c.note.ensures.capacity_left, c.builds.invariant.room_left);
      len = omega (arith, c.in-Some.ensures.len, c.note.ensures.len_left, c.builds.invariant.len);
      capacity = omega (arith, c.note.ensures.capacity_left, c.builds.invariant.capacity);
      order = subst AreByPair (sym c.put_coming-shifted.ensures.rows) (by_pair-build b rows c.builds.invariant.order);
      filled = c.put_coming-shifted.ensures.filled;
      some = c.put_coming-shifted.ensures.some;
      room = omega (arith, c.in-Some.ensures.len, c.put_coming-shifted.ensures.len, c.put_coming-shifted.ensures.capacity, c.builds.invariant.room);
      spares = omega (arith, c.in-Some.ensures.len, c.put_coming-shifted.ensures.spares, c.builds.invariant.spares);
    }

pub builds-preserved : goal.builds-preserved
builds-preserved c =
    let p = stands_beside (unboxed c.args.drops.now) in
    let b = c.in-Some.next in
    let left = c.pop.new.self.items in
    let rows = joined c.builds.held.items in
    let stands = sym c.stands_beside.ensures ∙ c.if-stands_beside.false in
    let items = c.in-Some.ensures.items in
    record {
      rows =
          ap (λ t. with_builds p left (cond t (with_build b rows) rows)) (sym stands)
          ∙ sym (builds-last p left b rows)
          ∙ ap (λ bs. with_builds p bs rows) (sym items)
          ∙ c.builds.invariant.rows;
      came =
          ap (λ t. c.builds.log.came.items ++ t) (came-passed p left b rows (sym stands) ∙ ap (λ bs. (shift_builds p bs rows).came) (sym items))
          ∙ c.builds.invariant.came;
      gone =
          ap (λ t. c.builds.log.left.items ++ t) (left-passed p left b rows (sym stands) ∙ ap (λ bs. (shift_builds p bs rows).left) (sym items))
          ∙ c.builds.invariant.gone;
      room_came = omega (arith, c.in-Some.ensures.len, c.builds.invariant.room_came);
      room_left = omega (arith, c.in-Some.ensures.len, c.builds.invariant.room_left);
      len = omega (arith, c.in-Some.ensures.len, c.builds.invariant.len);
      capacity = c.builds.invariant.capacity;
      order = c.builds.invariant.order;
      filled = c.builds.invariant.filled;
      some = c.builds.invariant.some;
      room = omega (arith, c.in-Some.ensures.len, c.builds.invariant.room);
      spares = omega (arith, c.in-Some.ensures.len, c.builds.invariant.spares);
    }
