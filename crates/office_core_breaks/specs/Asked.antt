-- What is asked about: that a source moves, that a group moves as one, or that versions leave. In which words it is
-- asked is decided by this office.
use Rattle.std.specs.Prelude.{ℕ, if◌then◌else◌, List, ◌++◌, codes, Result, Ok, Err}
use Rattle.deb_control.specs.Relations.{is_package_name}
use Rattle.testing_rules_items.specs.declared.item.Hint.TheVariants.{Easy, Remove}
use Rattle.testing_rules_items.specs.declared.item.Item.TheVariants.{Hint as Wish}
use Rattle.office_mail_setup.specs.declared.field.Field.TheVariants as field
use Rattle.office_mail.specs.declared.message.Body.{Body}
use Rattle.office_mail.specs.declared.message.Body.TheVariants.{Item as Said}
use Rattle.office_mail.specs.declared.message.Message.{Message}
use Rattle.office_mail.specs.declared.message.MailFault.{MailFault}
use Rattle.office_mail.specs.declared.message.MailFault.TheVariants.{BadValue}
use Rattle.office_mail.specs.Lists.{Lists}
use Rattle.office_mail.specs.Read.{read}
use Rattle.office_core_replies.specs.Replies.{name_at}
use Rattle.office_core_facts.specs.Seen.{release}
use Rattle.office_core_breaks.specs.declared.asked.Change.{Change}
use Rattle.office_core_breaks.specs.declared.asked.Change.TheVariants.{Source, Group, Removal}
use Rattle.office_core_breaks.specs.declared.asked.Question.{Question}

-- the text of a message that gives a hint
unfoldable pub hint_text : Lists → List ℕ → List ℕ
hint_text setup hint = codes "From: " ++ (name_at setup (release setup) ++ (codes "\nNumber: 1\nKind: hint\nHint: " ++ (hint ++ codes "\n")))

-- what a message asks to change by its hint: a group that moves, or versions that leave
abbrev pub change_in_body : Body → Result Change MailFault
change_in_body (Said (Wish (Easy items))) = Ok (Group items)
change_in_body (Said (Wish (Remove items))) = Ok (Removal items)
change_in_body _ = Err (BadValue field.Hint)

abbrev pub change_in : Result Message MailFault → Result Change MailFault
change_in (Ok message) = change_in_body message.body
change_in (Err fault) = Err fault

-- the name of a source asks about its move, and a hint about what it asks to change
unfoldable pub change_of : Lists → List ℕ → Result Change MailFault
change_of setup words = if is_package_name words then Ok (Source words) else change_in (read setup (hint_text setup words))

-- a change with the words that asked about it
abbrev pub with_words : List ℕ → Result Change MailFault → Result Question MailFault
with_words words (Ok change) = Ok (record { words = words; change = change })
with_words words (Err fault) = Err fault

-- what some words ask
abbrev pub question_in : Lists → List ℕ → Result Question MailFault
question_in setup words = with_words words (change_of setup words)
