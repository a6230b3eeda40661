use Rattle.std.proofs.Common.{◌≡◌, ℕ, drop}
use Rattle.std.specs.Option.{option_map}
use Rattle.office_mail.specs.Read.{sender_from}
use Rattle.office_mail_setup.specs.declared.setup.Role.{Role}
use Rattle.office_http_requests.proofs.letters.sender_place.Given as goal

-- the sender is among those that are left, if anywhere
abbrev pub invariant-senders : goal.invariant-senders
invariant-senders l = record {
  same : option_map (λ (s : ℕ × Role). s.0) (sender_from l.place l.name (drop l.sender-index l.setup.senders)) ≡ option_map (λ (s : ℕ × Role). s.0) (sender_from 0 l.name l.setup.senders);
  place : l.place ≡ l.sender-index;
}
