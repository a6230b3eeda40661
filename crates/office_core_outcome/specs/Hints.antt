-- Hints that are tried, as messages of the release team.
use Rattle.std.specs.Prelude.{ℕ, ◌+◌, nat_le, if◌then◌else◌, List, [], ◌∷◌, ◌++◌, codes, decimal, Option, Some, None, Result, Ok, Err, option_to_list}
use Rattle.testing_rules_model.specs.Covered.{Covered}
use Rattle.office_mail.specs.declared.message.Message.{Message}
use Rattle.office_mail.specs.declared.message.MailFault.{MailFault}
use Rattle.office_mail.specs.declared.message.MailFault.TheVariants.{BadNumber}
use Rattle.office_mail.specs.Lists.{Lists}
use Rattle.office_mail.specs.Read.{read}
use Rattle.office_store_keeper.specs.declared.values.Letter.{Letter}
use Rattle.office_core_replies.specs.Replies.{name_at}
use Rattle.office_core_facts.specs.Outcome.{item_at}
use Rattle.office_core_facts.specs.Seen.{release}
use Rattle.office_core_outcome.specs.declared.RefusedHint.{RefusedHint}

-- the text of a message that gives a hint
unfoldable pub hint_text : Lists → ℕ → List ℕ → List ℕ
hint_text setup number hint =
    codes "From: " ++ name_at setup (release setup) ++ 10 ∷ codes "Number: " ++ decimal number ++ 10 ∷ codes "Kind: hint" ++ 10 ∷ codes "Hint: " ++ hint ++ 10 ∷ []

-- the message of a hint
abbrev pub hint_letter : Lists → ℕ → List ℕ → Letter
hint_letter setup number hint = record { number = number; text = hint_text setup number hint }

-- the messages of hints, numbered from the one after this number
abbrev pub hint_letters : Lists → ℕ → List (List ℕ) → List Letter
hint_letters setup number [] = []
hint_letters setup number (hint ∷ rest) = hint_letter setup (number + 1) hint ∷ hint_letters setup (number + 1) rest

-- why a text is refused, if it is
abbrev pub refusal_in : Result Message MailFault → Option MailFault
refusal_in (Ok message) = None
refusal_in (Err fault) = Some fault

-- why a hint is refused under a number, if it is; no message has a number above 999,999,999
unfoldable pub hint_refusal : Lists → ℕ → List ℕ → Option MailFault
hint_refusal setup number hint = if nat_le number 999_999_999 then refusal_in (read setup (hint_text setup number hint)) else Some BadNumber

-- a refusal with the place of its hint, or else another one
abbrev pub or_refused : ℕ → Option MailFault → Option RefusedHint → Option RefusedHint
or_refused place (Some fault) rest = Some (record { place = place; fault = fault })
or_refused place None rest = rest

-- the first refusal of hints, numbered from the one after this number, with places from that one on
abbrev pub first_refused : Lists → ℕ → ℕ → List (List ℕ) → Option RefusedHint
first_refused setup number place [] = None
first_refused setup number place (hint ∷ rest) = or_refused place (hint_refusal setup (number + 1) hint) (first_refused setup (number + 1) (place + 1) rest)

-- what messages of a sender say, the last one first, and then what other mail says
unfoldable pub with_letters : Lists → ℕ → List Letter → Covered → Covered
with_letters setup sender [] mail = mail
with_letters setup sender (letter ∷ rest) mail = with_letters setup sender rest (option_to_list (item_at setup ((sender, letter.number), letter.text)) ++ mail)
