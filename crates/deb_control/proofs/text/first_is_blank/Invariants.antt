use Rattle.std.proofs.Common.{◌≡◌}
use Rattle.deb_control.specs.Text.{is_blank_line}
use Rattle.deb_control.specs.steps.ReaderSteps.{line_in_front}
use Rattle.deb_control.proofs.LineFronts.{blank_from}
use Rattle.deb_control.proofs.text.first_is_blank.Given as goal

-- the line is blank if what is left of it is
abbrev pub invariant-loop-c : goal.invariant-loop-c
invariant-loop-c l = blank_from l.bytes l.c-index ≡ is_blank_line (line_in_front l.bytes)
