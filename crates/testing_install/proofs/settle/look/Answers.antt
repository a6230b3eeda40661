use Rattle.std.proofs.Common.{arith, ap, sym, ◌∙◌}
use Rattle.testing_install.proofs.Sharing.{shared_at, length-shared}
use Rattle.testing_install.proofs.Settled.{settling_upheld, settling_fall, sized_fall}
use Rattle.testing_install.specs.Closed.{marked}
use Rattle.testing_install.specs.Rows.{shared}
use Rattle.testing_install.proofs.settle.look.Goals as goal

pub returns-then-is_upheld-clause-step : goal.returns-then-is_upheld-clause-step
returns-then-is_upheld-clause-step c = λ there first todo s.
    let at = shared_at c.args.graph.now.rows.items c.args.place c.index.result.now c.as_ref.result.now c.requires.place c.index.ensures c.as_ref.ensures in
    settling_upheld (shared c.args.graph.now.rows.items) there first _ _ _ _ todo _ s _ at (rw c.current-2.ensures at (c.is_upheld.ensures.yes c.if-is_upheld.true))

pub returns-clause-sized : goal.returns-clause-sized
returns-clause-sized c = rw (c.in_ok-fall.ensures.marks, c.in_ok-fall.ensures.waiting) (sized_fall _ _ _ _ c.requires.sized (omega (arith, c.requires.place, length-shared c.args.graph.now.rows.items)))

pub returns-clause-step : goal.returns-clause-step
returns-clause-step c = λ there first todo s.
    let at = shared_at c.args.graph.now.rows.items c.args.place c.index.result.now c.as_ref.result.now c.requires.place c.index.ensures c.as_ref.ensures in
    let here = ap (λ m. marked m c.args.place) (sym c.current.ensures) ∙ c.if-not-current-place.false in
    rw (c.in_ok-fall.ensures.marks, c.in_ok-fall.ensures.waiting, c.in_ok-fall.ensures.fallen) (settling_fall (shared c.args.graph.now.rows.items) there first _ _ _ _ todo _ s _ at (omega (arith, c.requires.place, c.requires.sized.long, length-shared c.args.graph.now.rows.items)) here (rw c.current-2.ensures at (c.is_upheld.ensures.no c.if-is_upheld.false)))
