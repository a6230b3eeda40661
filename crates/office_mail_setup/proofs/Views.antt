-- Lines of a setup, without where they lie in memory.
use Rattle.std.proofs.Common.{ℕ, List, map}
use Rattle.office_mail_setup.specs.declared.setup_read.SenderLine.{SenderLine}
use Rattle.office_mail_setup.proofs.Each.{nowhere}

abbrev pub sender_lines : List SenderLine → List (List ℕ × List ℕ)
sender_lines xs = map (λ s. (s.name.now, s.role.now)) xs

abbrev pub no_line : SenderLine
no_line = record { name = nowhere; role = nowhere }
