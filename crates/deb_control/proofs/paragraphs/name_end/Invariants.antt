use Rattle.deb_control.proofs.Cuts.{NameGoesOn}
use Rattle.deb_control.proofs.paragraphs.name_end.Given as goal

-- neither the name nor the line has ended so far
abbrev pub invariant-loop-i : goal.invariant-loop-i
invariant-loop-i l = NameGoesOn l.fn.whole l.i
