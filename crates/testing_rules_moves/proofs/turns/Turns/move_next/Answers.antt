use Rattle.std.proofs.Common.{arith, ◌≡◌, refl, sym, ◌∙◌, ap, subst, ◌<◌, ◌≤◌, ◌+◌, ◌++◌, false, take, drop, length, get_or}
use Rattle.std.specs.VecDeque.{deque_len}
use Rattle.testing_rules_moves.specs.steps.Refusals.{AreRefused, IsNext, IsTried}
use Rattle.testing_rules_moves.specs.steps.Runs.{moment_of}
use Rattle.testing_rules_moves.proofs.Trying.{begin, found_none, found_later, found_here, own_number}
use Rattle.testing_rules_moves.proofs.turns.Turns.move_next.Goals as goal

pub loop-place-init : goal.loop-place-init
loop-place-init c = record { circle = refl; tried = λ excuses numbered known. begin c.args.self.now excuses _ c.args.refusals.now known }

pub loop-place-preserved : goal.loop-place-preserved
loop-place-preserved c = record {
  circle = c.loop-place.invariant.circle;
  tried = λ excuses numbered known.
      let items = c.args.circle.now.items in
      let i = c.loop-place.place in
      let b = c.index.result.now in
      let r = c.args.self.now in
      let mid = c.loop-place.self in
      let s = c.loop-place.invariant.tried excuses numbered known in
      let below : i < length items = omega (arith, ap deque_len c.loop-place.invariant.circle, c.args.circle.now.ok.0) in
      let is : b ≡ get_or items i b = c.index.ensures ∙ ap (λ v. get_or v.items i b) c.loop-place.invariant.circle in
      let number = own_number r mid excuses items c.loop-place.refusals i numbered s b below is c.try_alone.new.self c.try_alone.new.refusals in
      let tried = c.in_ok-try_alone.ensures excuses number (subst (λ q. AreRefused (moment_of q) excuses c.loop-place.refusals) (sym s.same) s.known) in
      found_later r mid excuses items c.loop-place.refusals i numbered s b below is c.try_alone.new.self c.try_alone.new.refusals
      (subst (λ m. IsTried mid c.try_alone.new.self excuses b.excuse.now c.try_alone.new.refusals m) c.if-branch.false tried);
}

pub returns-then-branch-clause-next : goal.returns-then-branch-clause-next
returns-then-branch-clause-next c = λ excuses numbered known.
    let items = c.args.circle.now.items in
    let i = c.loop-place.place in
    let b = c.index.result.now in
    let r = c.args.self.now in
    let mid = c.loop-place.self in
    let s = c.loop-place.invariant.tried excuses numbered known in
    let below : i < length items = omega (arith, ap deque_len c.loop-place.invariant.circle, c.args.circle.now.ok.0) in
    let is : b ≡ get_or items i b = c.index.ensures ∙ ap (λ v. get_or v.items i b) c.loop-place.invariant.circle in
    let number = own_number r mid excuses items c.loop-place.refusals i numbered s b below is c.try_alone.new.self c.try_alone.new.refusals in
    let tried = c.in_ok-try_alone.ensures excuses number (subst (λ q. AreRefused (moment_of q) excuses c.loop-place.refusals) (sym s.same) s.known) in
    found_here r mid excuses items c.loop-place.refusals i numbered s b below is c.try_alone.new.self c.try_alone.new.refusals
    (subst (λ m. IsTried mid c.try_alone.new.self excuses b.excuse.now c.try_alone.new.refusals m) c.if-branch.true tried)
    c.go_on_behind.new.circle.items (c.go_on_behind.ensures.behind ∙ ap (λ v. drop (i + 1) v.items ++ take i v.items) c.loop-place.invariant.circle)

pub returns-clause-next : goal.returns-clause-next
returns-clause-next c = λ excuses numbered known.
    let items = c.args.circle.now.items in
    let i = c.loop-place.place in
    let past : length items ≤ i = omega (arith, c.args.circle.now.ok.0, c.len-place-end.ensures) in
    subst (λ v. IsNext c.args.self.now c.loop-place.self excuses items v.items c.loop-place.refusals false) (sym c.loop-place.invariant.circle)
    (found_none c.args.self.now c.loop-place.self excuses items c.loop-place.refusals i numbered (c.loop-place.invariant.tried excuses numbered known) past)
