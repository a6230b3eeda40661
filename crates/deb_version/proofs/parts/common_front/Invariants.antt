use Rattle.deb_version.proofs.Shared.{IsFront}
use Rattle.deb_version.proofs.parts.common_front.Given as goal

abbrev pub invariant-loop-i : goal.invariant-loop-i
invariant-loop-i l = IsFront l.a l.b l.front l.i
