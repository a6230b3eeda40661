-- The lines that answer.
use Rattle.std.specs.Prelude.{ℕ, Bool, true, false, ◌||◌, List, [], ◌∷◌, ◌++◌, map, codes, decimal, slice_index_or, Option, Some, None, Result, Ok, Err}
use Rattle.office_mail.specs.Fields.{field_name}
use Rattle.office_mail.specs.declared.message.MailFault.{MailFault}
use Rattle.office_mail.specs.declared.message.MailFault.TheVariants.{TooLong, BadParagraph, MissingField, UnknownSender, BadNumber, UnknownKind, WrongRole, TooManyParagraphs, UnknownArchitecture, BadValue, NoMemory}
use Rattle.office_mail.specs.declared.bag.BagFault.{BagFault}
use Rattle.office_mail.specs.declared.bag.BagFault.TheVariants as bag
use Rattle.office_mail.specs.Lists.{Lists}
use Rattle.office_core_replies.specs.declared.faults.DeliverFault.{DeliverFault}
use Rattle.office_core_replies.specs.declared.faults.DeliverFault.TheVariants.{Mail, OtherText, Store}
use Rattle.office_core_replies.specs.declared.faults.Held.{Held}
use Rattle.office_core_replies.specs.declared.replies.Delivery.{Delivery}
use Rattle.office_core_replies.specs.declared.replies.Mark.{Mark}
use Rattle.office_core_replies.specs.declared.replies.Mark.TheVariants.{Taken, LostForMemory, LostForStore}

-- a refusal in words
abbrev pub mail_words : MailFault → List ℕ
mail_words TooLong = codes "TooLong"
mail_words BadParagraph = codes "BadParagraph"
mail_words (MissingField f) = codes "MissingField " ++ field_name f
mail_words UnknownSender = codes "UnknownSender"
mail_words BadNumber = codes "BadNumber"
mail_words UnknownKind = codes "UnknownKind"
mail_words WrongRole = codes "WrongRole"
mail_words TooManyParagraphs = codes "TooManyParagraphs"
mail_words UnknownArchitecture = codes "UnknownArchitecture"
mail_words (BadValue f) = codes "BadValue " ++ field_name f
mail_words NoMemory = codes "NoMemory"

abbrev pub fault_words : DeliverFault → List ℕ
fault_words (Mail fault) = mail_words fault
fault_words OtherText = codes "OtherText"
fault_words Store = codes "Store"

-- the name of the sender at a place
abbrev pub name_at : Lists → ℕ → List ℕ
name_at setup place = slice_index_or (map (λ sender. sender.name) setup.senders) place []

-- the line that answers a delivery
unfoldable pub reply_line : Lists → Result Held DeliverFault → List ℕ
reply_line setup (Ok held) = codes "held " ++ name_at setup held.sender ++ 32 ∷ decimal held.number ++ 10 ∷ []
reply_line setup (Err fault) = codes "refused " ++ fault_words fault ++ 10 ∷ []

-- the answer by a mark: the one that is due, or the answer to a loss
abbrev pub reply_by : Mark → Result Held DeliverFault → Result Held DeliverFault
reply_by Taken due = due
reply_by LostForMemory due = Err (Mail NoMemory)
reply_by LostForStore due = Err Store

-- what an answer says of a delivery: lost, or not
abbrev pub mark_of : Result Held DeliverFault → Mark
mark_of (Err (Mail NoMemory)) = LostForMemory
mark_of (Err Store) = LostForStore
mark_of _ = Taken

-- the deliveries that aren't lost
abbrev pub if_taken : Mark → List ℕ → List (List ℕ) → List (List ℕ)
if_taken Taken text texts = text ∷ texts
if_taken _ text texts = texts

abbrev pub not_lost : List Delivery → List (List ℕ)
not_lost [] = []
not_lost (d ∷ ds) = if_taken d.mark d.text (not_lost ds)

abbrev pub is_lost : Mark → Bool
is_lost Taken = false
is_lost _ = true

-- whether a delivery was lost
abbrev pub any_lost : List Delivery → Bool
any_lost [] = false
any_lost (d ∷ ds) = is_lost d.mark || any_lost ds

-- the line for a bag that is refused
abbrev pub bag_words : BagFault → List ℕ
bag_words bag.BadHeader = codes "BadHeader"
bag_words bag.Truncated = codes "Truncated"
bag_words bag.ReadFault = codes "ReadFault"
bag_words bag.NoMemory = codes "NoMemory"

abbrev pub bag_line : Option BagFault → List ℕ
bag_line None = []
bag_line (Some fault) = codes "bag refused " ++ bag_words fault ++ 10 ∷ []

-- the line of the status
abbrev pub status_line : ℕ → ℕ → List ℕ
status_line ready finished = codes "ready " ++ decimal ready ++ codes " finished " ++ decimal finished ++ 10 ∷ []
