use Rattle.std.proofs.Common.{◌+◌, sym, ◌∙◌, arith, subst}
use Rattle.deb_version.proofs.Shared.{IsFront, front_taken, front_kept}
use Rattle.deb_version.proofs.parts.common_front.Goals as goal
use Rattle.deb_version.proofs.parts.common_front.Goals.{then-not-is_ascii_digit, else-not-is_ascii_digit}

pub loop-i-preserved : goal.loop-i-preserved
loop-i-preserved c =
    elim c.if-not-is_ascii_digit.branch [
      | then-not-is_ascii_digit w ↦
          subst (λ n. IsFront c.args.a.now c.args.b.now n (c.loop-i.i + 1)) (sym w.front-is)
          (front_taken c.args.a.now c.args.b.now c.loop-i.front c.loop-i.i c.loop-i.invariant (omega arith) (omega arith) c.if-a-i.false (sym c.is_ascii_digit.ensures.value ∙ w.if-not-is_ascii_digit.true))
      | else-not-is_ascii_digit w ↦
          subst (λ n. IsFront c.args.a.now c.args.b.now n (c.loop-i.i + 1)) (sym w.front-is)
          (front_kept c.args.a.now c.args.b.now c.loop-i.front c.loop-i.i c.loop-i.invariant c.if-a-i.false (sym c.is_ascii_digit.ensures.value ∙ w.if-not-is_ascii_digit.false))
    ]
