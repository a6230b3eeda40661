-- Messages: the content of a text, or the first reason why it isn't a message.
use Rattle.std.specs.Prelude.{ℕ, ◌+◌, Bool, true, ◌||◌, nat_le, if◌then◌else◌, List, [], ◌∷◌, length, codes, Option, Some, None, Result, Ok, Err}
use Rattle.std.specs.List.{list_all, list_any}
use Rattle.std.specs.Str.{bytes_eq}
use Rattle.deb_control.specs.Paragraphs.{reading}
use Rattle.deb_control.specs.Relations.{◌>>=◌}
use Rattle.deb_control.specs.Binary.{binary_of}
use Rattle.deb_control.specs.declared.binary.Binary.{Binary}
use Rattle.deb_control.specs.declared.fault.BinaryField.{BinaryField}
use Rattle.deb_control.specs.declared.fault.BinaryField.TheVariants as binary
use Rattle.deb_control.specs.declared.fault.BinaryFault.{BinaryFault}
use Rattle.deb_control.specs.declared.fault.BinaryFault.TheVariants as binary_fault
use Rattle.testing_rules_items.specs.declared.item.Item.{Item}
use Rattle.testing_rules_items.specs.declared.item.Item.TheVariants as item
use Rattle.office_mail_setup.specs.declared.field.Field.{Field}
use Rattle.office_mail_setup.specs.declared.field.Field.TheVariants as field
use Rattle.office_mail_setup.specs.declared.kind.Kind.{Kind}
use Rattle.office_mail_setup.specs.declared.kind.Kind.TheVariants as kind
use Rattle.office_mail.specs.declared.message.Body.{Body}
use Rattle.office_mail.specs.declared.message.Body.TheVariants.{Run, Item as Saying}
use Rattle.office_mail.specs.declared.message.RunOrder.{RunOrder}
use Rattle.office_mail.specs.declared.message.Message.{Message}
use Rattle.office_mail.specs.declared.message.MailFault.{MailFault}
use Rattle.office_mail.specs.declared.message.MailFault.TheVariants.{TooLong, BadParagraph, MissingField, UnknownSender, BadNumber, UnknownKind, WrongRole, TooManyParagraphs, UnknownArchitecture, BadValue, NoMemory}
use Rattle.office_mail_setup.specs.declared.setup.Sender.{Sender}
use Rattle.office_mail_setup.specs.declared.setup.Role.{Role}
use Rattle.office_mail_setup.specs.Lists.{Lists}
use Rattle.office_mail_setup.specs.WholeText.{Paragraph, needs, given, each_of, whole, first_of, rest_of}
use Rattle.office_mail_setup.specs.Values.{number_in, days_in, package_in, version_in, urgency_in, severity_in}
use Rattle.office_mail.specs.Days.{day_in}
use Rattle.office_mail.specs.Fields.{text_of, required, has_fields, value_in, value_if_there}
use Rattle.office_mail_setup.specs.Kinds.{kind_named, may_send, fields_needed, binary_fields_needed}
use Rattle.office_mail.specs.Hints.{hint_in}
use Rattle.office_mail.specs.Covers.{covers_in}

-- The content of each kind of message. Fields are read in the order of the lines, and the first bad one is the fault.

-- an upload: its source, version (Debian Policy 5.6.12) and urgency (5.6.17), and its day
unfoldable pub upload_of : Paragraph → Result Item MailFault
upload_of p = do
  source ← value_in package_in p field.Source
  version ← value_in version_in p field.Version
  urgency ← value_in urgency_in p field.Urgency
  day ← value_in day_in p field.Day
  Ok (item.Upload source version urgency day)

-- a drop, once its architecture is known to be listed or `all`
unfoldable pub drop_of : Paragraph → Result Item MailFault
drop_of p = do
  name ← value_in package_in p field.Package
  arch ← required p field.Architecture
  version ← value_in version_in p field.Version
  Ok (item.Dropped name arch version)

-- the mail field for a field of a binary package (Debian Policy 5.3)
abbrev pub binary_field : BinaryField → Field
binary_field binary.Package = field.Package
binary_field binary.Version = field.Version
binary_field binary.Architecture = field.Architecture
binary_field binary.Source = field.Source
binary_field binary.PreDepends = field.PreDepends
binary_field binary.Depends = field.Depends
binary_field binary.Provides = field.Provides

-- the mail fault for a binary package's fault: a missing field or a bad value (this office decides it)
abbrev pub fault_of_binary : BinaryFault → MailFault
fault_of_binary (binary_fault.MissingField f) = MissingField (binary_field f)
fault_of_binary (binary_fault.BadName f) = BadValue (binary_field f)
fault_of_binary (binary_fault.BadVersion f) = BadValue (binary_field f)
fault_of_binary (binary_fault.BadRelation f) = BadValue (binary_field f)
fault_of_binary binary_fault.NoMemory = NoMemory

-- the binary package, or its fault as a mail fault
abbrev pub of_binary : Result Binary BinaryFault → Result Binary MailFault
of_binary (Ok b) = Ok b
of_binary (Err e) = Err (fault_of_binary e)

-- a binary package in the form of control data (Debian Policy 5.3)
unfoldable pub binary_in : Paragraph → Result Binary MailFault
binary_in p = of_binary (binary_of p)

-- a build: its binaries, a paragraph each (Debian Policy 5.3), or the first fault
unfoldable pub build_of : List Paragraph → Result Item MailFault
build_of ps = each_of binary_in ps >>= λ binaries. Ok (item.Build binaries)

-- a bug: its number, source and severity, and where it was found and fixed (Debian Developer's Reference 5.13.2)
unfoldable pub bug_of : Paragraph → Result Item MailFault
bug_of p = do
  bug ← value_in (number_in 1 999_999_999) p field.Bug
  source ← value_in package_in p field.Source
  severity ← value_in severity_in p field.Severity
  found ← value_if_there version_in p field.Found
  fixed ← value_if_there version_in p field.Fixed
  Ok (item.Bug bug source severity found fixed)

-- a hint (this office decides its form)
unfoldable pub hint_of : Paragraph → Result Item MailFault
hint_of p = required p field.Hint >>= λ text. hint_in text >>= λ hint. Ok (item.Hint hint)

-- an unhint: the number of the hint that it cancels (this office decides it)
unfoldable pub unhint_of : Paragraph → Result Item MailFault
unhint_of p = value_in (number_in 1 999_999_999) p field.Cancels >>= λ number. Ok (item.Unhint number)

-- the days of each urgency; emergency equals critical
unfoldable pub delays_of : Paragraph → Result Item MailFault
delays_of p = do
  low ← value_in days_in p field.Low
  medium ← value_in days_in p field.Medium
  high ← value_in days_in p field.High
  critical ← value_in days_in p field.Critical
  Ok (item.Delays low medium high critical)

-- a run order: its day and its covers (this office decides it)
unfoldable pub order_of : Lists → Paragraph → Result RunOrder MailFault
order_of setup p = do
  day ← value_in day_in p field.Day
  text ← required p field.Covers
  covers ← covers_in setup text
  Ok (record { day = day; covers = covers })

-- the item as a message's body
abbrev pub said : Result Item MailFault → Result Body MailFault
said r = r >>= λ i. Ok (Saying i)

-- the body of a message of this kind, from its paragraphs (this office decides the kinds)
unfoldable pub body_of : Lists → Kind → Paragraph → List Paragraph → Result Body MailFault
body_of setup kind.Upload first rest = said (upload_of first)
body_of setup kind.Drop first rest = said (drop_of first)
body_of setup kind.Build first rest = said (build_of rest)
body_of setup kind.Bug first rest = said (bug_of first)
body_of setup kind.Hint first rest = said (hint_of first)
body_of setup kind.Unhint first rest = said (unhint_of first)
body_of setup kind.Delays first rest = said (delays_of first)
body_of setup kind.Run first rest = order_of setup first >>= λ order. Ok (Run order)
body_of setup kind.Nothing first rest = Ok (Saying item.Nothing)

-- The earlier checks.

-- the first field missing from one of these paragraphs is a fault
unfoldable pub all_have : List Field → List Paragraph → Result Bool MailFault
all_have fields [] = Ok true
all_have fields (p ∷ ps) = has_fields fields p >>= λ yes. all_have fields ps

-- a build has one paragraph for each binary, at least one
abbrev pub has_binaries : List Paragraph → Result Bool MailFault
has_binaries [] = Err (MissingField field.Package)
has_binaries (p ∷ ps) = all_have binary_fields_needed (p ∷ ps)

-- the fields of a kind are given; an unknown kind needs no fields
unfoldable pub has_fields_of : Option Kind → Paragraph → List Paragraph → Result Bool MailFault
has_fields_of None first rest = Ok true
has_fields_of (Some kind.Build) first rest = has_binaries rest
has_fields_of (Some k) first rest = has_fields (fields_needed k) first

-- the sender with a name, and its place in the setup
abbrev pub sender_from : ℕ → List ℕ → List Sender → Option (ℕ × Role)
sender_from place name [] = None
sender_from place name (s ∷ ss) = if bytes_eq s.name name then Some (place, s.role) else sender_from (place + 1) name ss

-- the sender of a setup with a name, and its place
unfoldable pub sender_named : Lists → List ℕ → Option (ℕ × Role)
sender_named setup name = sender_from 0 name setup.senders

-- a build may have 63 paragraphs after the first, any other kind none
abbrev pub most_paragraphs : Kind → ℕ
most_paragraphs kind.Build = 63
most_paragraphs _ = 0

-- a listed architecture, or `all`
abbrev pub is_arch : List (List ℕ) → List ℕ → Bool
is_arch archs name = bytes_eq name (codes "all") || list_any (bytes_eq name) archs

-- the paragraph names only known architectures
unfoldable pub knows_arch : Lists → Paragraph → Bool
knows_arch setup p = elim (text_of p field.Architecture) [ None ↦ true | Some name ↦ is_arch setup.archs name ]

-- the architectures in a message of this kind are known: a drop names one, and so does each binary of a build
unfoldable pub knows_archs : Lists → Kind → Paragraph → List Paragraph → Bool
knows_archs setup k first rest = list_all (knows_arch setup) (elim k [ kind.Drop ↦ first ∷ [] | kind.Build ↦ rest | _ ↦ [] ])

-- the message of the paragraphs, with this sender, number and kind from the first
unfoldable pub message_of : Lists → List ℕ → List ℕ → Option Kind → Paragraph → List Paragraph → Result Message MailFault
message_of setup from number stated first rest = do
  sender ← given (sender_named setup from) UnknownSender
  n ← given (number_in 1 999_999_999 number) BadNumber
  kind ← given stated UnknownKind
  _ ← needs (may_send sender.1 kind) WrongRole
  _ ← needs (nat_le (length rest) (most_paragraphs kind)) TooManyParagraphs
  _ ← needs (knows_archs setup kind first rest) UnknownArchitecture
  body ← body_of setup kind first rest
  Ok (record { sender = sender.0; number = n; body = body })

-- the message of the paragraphs, if the first names a sender, a number and a kind
unfoldable pub paragraphs_say : Lists → Paragraph → List Paragraph → Result Message MailFault
paragraphs_say setup first rest = do
  from ← required first field.From
  number ← required first field.Number
  kind ← required first field.Kind
  _ ← has_fields_of (kind_named kind) first rest
  message_of setup from number (kind_named kind) first rest

-- the message in a text, or the first refusal
unfoldable pub read : Lists → List ℕ → Result Message MailFault
read setup text = do
  _ ← needs (nat_le (length text) 65_536) TooLong
  paragraphs ← whole (reading text) BadParagraph
  paragraphs_say setup (first_of paragraphs) (rest_of paragraphs)
