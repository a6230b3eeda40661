use Rattle.std.proofs.Common.{◌≡◌, ℕ, List, take, map}
use Rattle.office_mail_setup.proofs.Each.{texts}
use Rattle.office_mail_setup.proofs.setup_read.names_of.Given as goal

-- the names so far
abbrev pub invariant-senders : goal.invariant-senders
invariant-senders l = texts l.names.items ≡ map (λ (s : List ℕ × List ℕ). s.0) (map (λ s. (s.name.now, s.role.now)) (take l.sender-index l.senders))
