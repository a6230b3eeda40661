-- A setup: the names of its architectures, and its senders.
use Rattle.std.specs.Prelude.{ℕ, List}
use Rattle.office_mail_setup.specs.declared.setup.Sender.{Sender}

pub record Lists : Type 0 where
  pub archs : List (List ℕ)
  pub senders : List Sender
