use Rattle.std.proofs.Common.{◌≡◌, ◌∙◌, subst, IfNone, ◌<◌, length, None, arith}
use Rattle.testing_rules_model.specs.JudgedRows.{lent}
use Rattle.testing_rules_model.specs.Moves.{offender_on}
use Rattle.testing_rules_suites.proofs.Failing.{first_of-next}
use Rattle.testing_rules_refusals.proofs.refusal.refused.Goals as goal

pub loop-arch-preserved : goal.loop-arch-preserved
loop-arch-preserved c =
    let a = c.args in
    let i = c.loop-arch.arch in
    let broken = offender_on (lent a.old.now) (lent a.new.now) a.group.now in
    let below : i < length a.archs.now = omega arith in
    let whole : broken i ≡ None = subst (λ o. IfNone o (broken i ≡ None)) c.in_default.is c.in_ok-found.ensures.none in
    first_of-next broken (length a.archs.now) i below whole ∙ c.loop-arch.invariant
