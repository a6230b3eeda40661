-- The content of an office's tables, as the content of a keeper.
use Rattle.std.specs.Prelude.{◌&&◌, ◌==◌, ◌++◌, Bool, ℕ, zero, suc, List, [], ◌∷◌, length, filter_map, if◌then◌else◌, Option, Some, None, Result, Ok, Err, unwrap_or, option_and_then, nat_lt, ◌||◌}
use Rattle.std.specs.FinMap.{FinMap, get, entries}
use Rattle.std.specs.Ordering.{nat_cmp}
use Rattle.std.specs.Option.{option_map_or}
use Rattle.std.specs.Str.{bytes_eq}
use Rattle.sqlite.specs.Tree.{Trees}
use Rattle.deb_control.specs.declared.binary.Binary.{Binary}
use Rattle.testing_rules_model.specs.Suite.{Suite}
use Rattle.testing_rules_items.specs.Words.{byte_cmp, arch_name, all_place}
use Rattle.testing_rules_model.specs.Moves.{row_cmp}
use Rattle.testing_rules_model.specs.declared.suite.SourceIn.{SourceIn}
use Rattle.testing_rules_model.specs.declared.suite.RowIn.{RowIn}
use Rattle.office_mail.specs.declared.message.Message.{Message}
use Rattle.office_mail.specs.declared.message.MailFault.{MailFault}
use Rattle.office_mail.specs.Lists.{Lists}
use Rattle.office_mail.specs.Kept.{Kept, Place}
use Rattle.office_mail.specs.Read.{read}
use Rattle.office_store_keeper.specs.declared.values.Reports.{Reports}
use Rattle.office_store_testing_tables.specs.declared.said.Said.{Said}
use Rattle.office_store_keeper.specs.Content.{Content}
use Rattle.office_store_keeper.specs.Provenance.{upload_in, binary_in}
use Rattle.office_store_testing_tables.specs.Tables.{kept_rows, said_in, run_map}
use Rattle.office_mail_setup.specs.declared.setup.Role.TheVariants.{Release}
use Rattle.office_mail.specs.Setup.{place_of_role}
use Rattle.office_store_testing_tables.specs.Entries.{source_map, entry_map}
use Rattle.office_store_testing_tables.specs.FactTables.{facts_in}

-- ---- messages

-- the message in a text, if it has this sender and number
abbrev pub own_by : ℕ → ℕ → Result Message MailFault → Option Message
own_by sender number (Ok message) = if (message.sender == sender) && (message.number == number) then Some message else None
own_by sender number (Err fault) = None

-- the kept message at a place
unfoldable pub message_at : Lists → Kept → ℕ → ℕ → Option Message
message_at setup kept sender number = option_and_then (λ text. own_by sender number (read setup text)) (get kept (sender, number))

-- ---- sources

-- the source of testing from an upload, if it has this name
abbrev pub source_as : List ℕ → ℕ → ℕ → Option (List ℕ × List ℕ) → Option SourceIn
source_as name sender number upload =
    option_and_then (λ (u : List ℕ × List ℕ). if bytes_eq u.0 name then Some (record { name = u.0; version = u.1; sender = sender; number = number }) else None) upload

-- the source of testing named by an entry: its upload is kept and has that name
unfoldable pub source_at : Lists → Kept → List ℕ × Place → Option SourceIn
source_at setup kept entry = option_and_then (λ (m : Message). source_as entry.0 entry.1.0 entry.1.1 (upload_in m.body)) (message_at setup kept entry.1.0 entry.1.1)

-- ---- rows

-- whether this is the place of a listed architecture or of `all`
abbrev pub is_arch_place : List (List ℕ) → ℕ → Bool
is_arch_place archs place = nat_lt place (length archs) || (place == all_place)

-- the row of testing from a binary, if it has this name and architecture
abbrev pub row_as : List (List ℕ) → ℕ → List ℕ → ℕ → ℕ → ℕ → Option Binary → Option RowIn
row_as archs arch name sender number place found =
    option_and_then (λ (b : Binary). if is_arch_place archs arch && (bytes_eq b.name name && bytes_eq (arch_name archs arch) b.architecture)
    then Some (record { arch = arch; binary = b; sender = sender; number = number; place = place }) else None) found

-- The row of testing named by an entry: its build is kept, and has at that place a binary with that name and
-- architecture.
unfoldable pub row_at : Lists → Kept → (ℕ × List ℕ) × (Place × ℕ) → Option RowIn
row_at setup kept entry =
    option_and_then (λ (m : Message). row_as setup.archs entry.0.0 entry.0.1 entry.1.0.0 entry.1.0.1 entry.1.1 (binary_in entry.1.1 m.body)) (message_at setup kept entry.1.0.0 entry.1.0.1)

-- testing, named by its entries
unfoldable pub suite_in : Lists → Kept → FinMap byte_cmp Place → FinMap row_cmp (Place × ℕ) → Suite
suite_in setup kept sources rows = record { sources = filter_map (source_at setup kept) (entries sources); rows = filter_map (row_at setup kept) (entries rows) }

-- ---- runs

-- the reports in place of a run without reports
abbrev pub no_reports : Reports
no_reports = record { excuses = []; updates = [] }

-- the reports of the runs from 1 to a number, in order
unfoldable pub reports_to : FinMap nat_cmp Reports → ℕ → List Reports
reports_to map zero = []
reports_to map (suc k) = reports_to map k ++ unwrap_or (get map (suc k)) no_reports ∷ []

-- the number of finished runs in the office's row
abbrev pub count_said : Option Said → ℕ
count_said said = option_map_or (λ (s : Said). s.finished) said 0

-- the place of the release team
abbrev pub release_place : Lists → ℕ
release_place setup = place_of_role Release setup.senders

-- the content of the tables
abbrev pub content_in : Lists → Trees → Content
content_in setup db = record {
  kept = kept_rows (db 1);
  reports = reports_to (run_map (db 3)) (count_said (said_in (db 0)));
  testing = suite_in setup (kept_rows (db 1)) (source_map (db 4)) (entry_map (db 6));
  facts = facts_in (release_place setup) (db 8) (db 10);
}
