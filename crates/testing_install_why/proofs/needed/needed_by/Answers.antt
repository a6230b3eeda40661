use Rattle.std.proofs.Common.{◌≡◌, ◌+◌, ◌-◌, get_or, sym, subst, arith}
use Rattle.std.proofs.lemmas.List.{with_items_is}
use Rattle.testing_install_why.specs.steps.Needed.{IsNeeded}
use Rattle.testing_install_why.proofs.Picking.{need_more, need_out}
use Rattle.testing_install_why.proofs.needed.needed_by.Goals as goal

pub loop-number-preserved-then-index : goal.loop-number-preserved-then-index
loop-number-preserved-then-index c =
    let before : c.loop-number.number - 1 + 1 ≡ c.loop-number.number = omega (arith, c.loop-number-test.true) in (
      rw (with_items_is c.loop-number.needed c.mark_providers.new.needed (omega (arith, c.mark_providers.ensures.long, c.deref_mut.ensures.len)))
          (need_more c.args.suite.now.rows c.args.order.now c.loop-number.needed.items c.mark_providers.new.needed c.args.last (c.loop-number.number - 1) (rw (sym c.deref_mut.ensures.value) c.mark_providers.ensures)
          (subst (λ n. IsNeeded c.args.suite.now.rows c.args.order.now c.loop-number.needed.items c.args.last n) (sym before) c.loop-number.invariant.0)),
      omega (arith, c.loop-number.invariant.1),
    )

pub loop-number-preserved : goal.loop-number-preserved
loop-number-preserved c =
    let before : c.loop-number.number - 1 + 1 ≡ c.loop-number.number = omega (arith, c.loop-number-test.true) in (
      need_out c.args.suite.now.rows c.args.order.now c.loop-number.needed.items c.args.last (c.loop-number.number - 1)
          (sym (subst (λ x. x ≡ get_or c.loop-number.needed.items (c.loop-number.number - 1) x) c.if-index.false c.index.ensures))
          (subst (λ n. IsNeeded c.args.suite.now.rows c.args.order.now c.loop-number.needed.items c.args.last n) (sym before) c.loop-number.invariant.0),
      omega (arith, c.loop-number.invariant.1),
    )

pub returns : goal.returns
returns c =
    let end : c.loop-number.number ≡ 0 = omega (arith, c.loop-number-test.false) in
    subst (λ n. IsNeeded c.args.suite.now.rows c.args.order.now c.loop-number.needed.items c.args.last n) end c.loop-number.invariant.0
