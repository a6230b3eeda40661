use Rattle.std.proofs.Common.{◌≡◌, ◌++◌, length}
use Rattle.deb_control.specs.Paragraphs.{reading}
use Rattle.office_mail_setup.proofs.paragraphs.all_paragraphs.Given as goal

-- the paragraphs so far, and then what the reader has yet to give
abbrev pub invariant-paragraphs : goal.invariant-paragraphs
invariant-paragraphs l = reading l.text ≡ record { paragraphs = l.paragraphs.items ++ l.reader.paragraphs; refusal = l.reader.refusal }

abbrev pub decreases-paragraphs : goal.decreases-paragraphs
decreases-paragraphs l = length l.reader.paragraphs
