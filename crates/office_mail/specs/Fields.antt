-- The content of the fields of messages, or a fault.
use Rattle.std.specs.Prelude.{ℕ, Bool, true, List, [], ◌∷◌, Option, Some, None, Result, Ok}
use Rattle.deb_control.specs.Relations.{◌>>=◌}
use Rattle.office_mail_setup.specs.declared.field.Field.{Field}
use Rattle.office_mail.specs.declared.message.MailFault.{MailFault}
use Rattle.office_mail.specs.declared.message.MailFault.TheVariants.{MissingField, BadValue}
use Rattle.office_mail_setup.specs.WholeText.{Paragraph, given}
pub use Rattle.office_mail_setup.specs.Fields.{field_name, text_of}

-- the text of a mandatory field
unfoldable pub required : Paragraph → Field → Result (List ℕ) MailFault
required p field = given (text_of p field) (MissingField field)

-- the first missing field of these is a fault
unfoldable pub has_fields : List Field → Paragraph → Result Bool MailFault
has_fields [] p = Ok true
has_fields (field ∷ fields) p = required p field >>= λ text. has_fields fields p

-- the value of a mandatory field; a text without a value is a fault
unfoldable pub value_in : {A : Type 0} → (List ℕ → Option A) → Paragraph → Field → Result A MailFault
value_in read p field = required p field >>= λ text. given (read text) (BadValue field)

-- the value of an optional field's text
abbrev pub read_if_there : {A : Type 0} → (List ℕ → Option A) → Field → Option (List ℕ) → Result (Option A) MailFault
read_if_there read field None = Ok None
read_if_there read field (Some text) = given (read text) (BadValue field) >>= λ value. Ok (Some value)

-- the value of an optional field of a paragraph
unfoldable pub value_if_there : {A : Type 0} → (List ℕ → Option A) → Paragraph → Field → Result (Option A) MailFault
value_if_there read p field = read_if_there read field (text_of p field)
