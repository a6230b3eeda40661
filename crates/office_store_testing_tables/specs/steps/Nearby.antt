-- Messages that were read, and what they bring.
use Rattle.std.specs.Prelude.{◌≡◌, ℕ, List, Option, Some, None, IfSome}
use Rattle.sqlite.specs.Tree.{Trees}
use Rattle.deb_control.specs.declared.binary.Binary.{Binary}
use Rattle.testing_rules_model.specs.declared.suite.SourceIn.{SourceIn}
use Rattle.office_mail.specs.Lists.{Lists}
use Rattle.office_store_keeper.specs.Provenance.{binary_in}
use Rattle.office_store_testing_tables.specs.declared.entries.KeptAt.{KeptAt}
use Rattle.office_store_testing_tables.specs.Tables.{kept_rows}
use Rattle.office_store_testing_tables.specs.TableContent.{message_at}

-- the message read last is kept at this place
abbrev pub IsKeptAt : ℕ → ℕ → Option KeptAt → Type 0
IsKeptAt sender number None = ⊥
IsKeptAt sender number (Some kept) = (kept.sender ≡ sender) × (kept.number ≡ number)

-- the message read last, if there is one, is the kept one at its place
abbrev pub IsKept : Lists → Trees → Option KeptAt → Type 0
IsKept setup db last = IfSome last (λ kept. message_at setup (kept_rows (db 1)) kept.sender kept.number ≡ Some kept.message)

-- the binary at a place of the message read last
abbrev pub read_binary : ℕ → Option KeptAt → Option Binary
read_binary place None = None
read_binary place (Some kept) = binary_in place kept.message.body

-- the source brought by an upload at this place
abbrev pub brought : ℕ → ℕ → Option (List ℕ × List ℕ) → Option SourceIn
brought sender number None = None
brought sender number (Some upload) = Some (record { name = upload.0; version = upload.1; sender = sender; number = number })
