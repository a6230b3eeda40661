use Rattle.std.proofs.Common.{◌≡◌, length, replicate, false, ap, ◌∙◌, arith}
use Rattle.std.proofs.lemmas.List.{with_items_is}
use Rattle.testing_install_why.proofs.Looked.{looked_begun}
use Rattle.testing_install_why.proofs.order.take_out.Goals as goal

pub loop-held-init : goal.loop-held-init
loop-held-init c = record {
  looked = looked_begun c.args.suite.now.rows c.args.places.now c.args.left.now c.in_ok-held.held.items c.in_ok-waiting.waiting.items c.requires.places (c.in_ok-held.ensures.items_if_clones_equal (λ y e. e) ∙ ap (λ n. replicate n false) c.len.ensures) c.in_ok-waiting.ensures.items;
  order = λ there o. o;
}

pub loop-held-preserved : goal.loop-held-preserved
loop-held-preserved c =
    let before = c.loop-held.invariant in
    let looked = c.in_ok-take_next.ensures.looked c.if-branch.true c.args.places.now (rw (c.deref_mut.ensures.value) before.looked) in
    let long : length c.take_next.new.held ≡ c.loop-held.held.len = omega (arith, looked.long, before.looked.long, c.loop-held.held.ok.0) in
    record {
      looked = rw (with_items_is c.loop-held.held c.take_next.new.held long) looked;
      order = λ there o. c.in_ok-take_next.ensures.order there (before.order there o);
    }

pub returns-clause-held : goal.returns-clause-held
returns-clause-held c = c.in_ok-take_next.ensures.held c.if-branch.false c.args.places.now (rw (c.deref_mut.ensures.value) c.loop-held.invariant.looked)
