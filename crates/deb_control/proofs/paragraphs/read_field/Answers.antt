use Rattle.std.proofs.Common.{rules}
use Rattle.deb_control.specs.Paragraphs.{line_fault}
use Rattle.deb_control.proofs.paragraphs.read_field.Goals as goal

pub returns-then-has_name : goal.returns-then-has_name
unfolding line_fault
returns-then-has_name c = search rules

pub returns : goal.returns
unfolding line_fault
returns c = search rules
