-- What stands in rows of tables, by what was found.
use Rattle.std.specs.Prelude.{ℕ, List, if◌then◌else◌, nat_lt, Option, Some, None, option_and_then}
use Rattle.testing_rules_model.specs.declared.fact_row.FactKind.{FactKind}
use Rattle.testing_rules_model.specs.declared.suite.SourceIn.{SourceIn}
use Rattle.testing_rules_model.specs.declared.suite.RowIn.{RowIn}
use Rattle.testing_rules_model.specs.FactRows.{kind_of}
use Rattle.office_mail.specs.declared.message.Message.{Message}
use Rattle.office_mail.specs.Lists.{Lists}
use Rattle.office_mail.specs.Kept.{Kept, Place}
use Rattle.office_mail.specs.Read.{read}
use Rattle.office_store_keeper.specs.Provenance.{upload_in, binary_in}
use Rattle.office_store_testing_tables.specs.TableContent.{own_by, source_as, source_at, row_as, row_at}

-- a number of 32 bits
abbrev pub small_of : Option ℕ → Option ℕ
small_of number = option_and_then (λ n. if nat_lt n 4_294_967_296 then Some n else None) number

-- the kind of this number
abbrev pub kind_by : Option ℕ → Option FactKind
kind_by number = option_and_then kind_of number

-- the message in a kept text, if it has this sender and number
abbrev pub message_by : Lists → ℕ → ℕ → Option (List ℕ) → Option Message
message_by setup sender number kept = option_and_then (λ text. own_by sender number (read setup text)) kept

-- the source of testing from a message, if it is an upload with this name
abbrev pub source_by_message : List ℕ → ℕ → ℕ → Option Message → Option SourceIn
source_by_message name sender number message = option_and_then (λ (m : Message). source_as name sender number (upload_in m.body)) message

abbrev pub source_by_entry : Lists → Kept → Option (List ℕ × Place) → Option SourceIn
source_by_entry setup kept entry = option_and_then (source_at setup kept) entry

-- the row of testing from a message, if it is a build with such a binary
abbrev pub row_by_message : List (List ℕ) → ℕ → List ℕ → ℕ → ℕ → ℕ → Option Message → Option RowIn
row_by_message archs arch name sender number place message =
    option_and_then (λ (m : Message). row_as archs arch name sender number place (binary_in place m.body)) message

abbrev pub row_by_entry : Lists → Kept → Option ((ℕ × List ℕ) × (Place × ℕ)) → Option RowIn
row_by_entry setup kept entry = option_and_then (row_at setup kept) entry
