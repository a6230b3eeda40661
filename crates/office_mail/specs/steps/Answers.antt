-- The results of calls, compared with the correct ones.
use Rattle.std.specs.Prelude.{◌≡◌, ⊤, Result, Ok, Err}
use Rattle.office_mail.specs.declared.message.MailFault.{MailFault}
use Rattle.office_mail.specs.declared.message.MailFault.TheVariants.{TooLong, BadParagraph, MissingField, UnknownSender, BadNumber, UnknownKind, WrongRole, TooManyParagraphs, UnknownArchitecture, BadValue, NoMemory}

-- the result of a call is the correct one, unless memory ran out
abbrev pub Fails : {Y : Type 0} → MailFault → Result Y MailFault → Type 0
Fails NoMemory due = ⊤
Fails TooLong due = due ≡ Err TooLong
Fails BadParagraph due = due ≡ Err BadParagraph
Fails (MissingField f) due = due ≡ Err (MissingField f)
Fails UnknownSender due = due ≡ Err UnknownSender
Fails BadNumber due = due ≡ Err BadNumber
Fails UnknownKind due = due ≡ Err UnknownKind
Fails WrongRole due = due ≡ Err WrongRole
Fails TooManyParagraphs due = due ≡ Err TooManyParagraphs
Fails UnknownArchitecture due = due ≡ Err UnknownArchitecture
Fails (BadValue f) due = due ≡ Err (BadValue f)

abbrev pub GivesBy : {X Y : Type 0} → (X → Y) → Result X MailFault → Result Y MailFault → Type 0
GivesBy view (Ok x) due = due ≡ Ok (view x)
GivesBy view (Err e) due = Fails e due

abbrev pub Gives : {Y : Type 0} → Result Y MailFault → Result Y MailFault → Type 0
Gives r due = GivesBy (λ y. y) r due
