-- The line on a kept message: its sender, its number, its kind, and what it is about.
use Rattle.std.specs.Prelude.{ℕ, ◌==◌, List, [], ◌∷◌, ◌++◌, length, codes, decimal, flat_map, filter_map, slice_index, if◌then◌else◌, Option, Some, None, Result, Ok, Err}
use Rattle.std.specs.List.{range_with_len}
use Rattle.jiff.specs.Words.{date_text}
use Rattle.testing_rules_items.specs.declared.item.Hint.{Hint}
use Rattle.testing_rules_items.specs.declared.item.Hint.TheVariants as hint
use Rattle.testing_rules_items.specs.declared.item.HintItem.{HintItem}
use Rattle.testing_rules_items.specs.declared.item.Item.{Item}
use Rattle.testing_rules_items.specs.declared.item.Item.TheVariants as item
use Rattle.office_mail.specs.declared.message.Body.{Body}
use Rattle.office_mail.specs.declared.message.Body.TheVariants.{Run, Item as Saying}
use Rattle.office_mail.specs.declared.message.MailFault.{MailFault}
use Rattle.office_mail.specs.declared.message.Message.{Message}
use Rattle.office_mail.specs.declared.message.RunOrder.{RunOrder}
use Rattle.office_mail.specs.Kept.{Kept}
use Rattle.office_mail.specs.Lists.{Lists}
use Rattle.office_mail.specs.Read.{read}
use Rattle.office_core_replies.specs.Replies.{name_at}
use Rattle.office_core_queries.specs.declared.covers.Stated.{Stated}
use Rattle.office_core_queries.specs.Export.{kept_texts}

-- a name after a space
abbrev pub spaced : List ℕ → List ℕ
spaced name = 32 ∷ name

-- a source at a version, as a hint names it, after a space
abbrev pub item_words : HintItem → List ℕ
item_words i = 32 ∷ i.name ++ 47 ∷ i.version

-- a hint, as its message spells it
abbrev pub hint_words : Hint → List ℕ
hint_words (hint.Block names) = codes "block" ++ flat_map spaced names
hint_words (hint.Unblock items) = codes "unblock" ++ flat_map item_words items
hint_words (hint.Easy items) = codes "easy" ++ flat_map item_words items
hint_words (hint.AgeDays days items) = codes "age-days " ++ decimal days ++ flat_map item_words items
hint_words (hint.Remove items) = codes "remove" ++ flat_map item_words items
hint_words hint.BlockAll = codes "block-all source"

-- the kind of an item, and what it is about
abbrev pub saying_words : Item → List ℕ
saying_words (item.Upload source version urgency day) = codes "upload " ++ source ++ 32 ∷ version
saying_words (item.Dropped name arch version) = codes "drop " ++ name ++ 32 ∷ version ++ 32 ∷ arch
saying_words (item.Build binaries) = codes "build " ++ decimal (length binaries)
saying_words (item.Bug bug source severity found fixed) = codes "bug " ++ decimal bug ++ 32 ∷ source
saying_words (item.Hint wish) = codes "hint " ++ hint_words wish
saying_words (item.Unhint number) = codes "unhint " ++ decimal number
saying_words (item.Delays low medium high critical) = codes "delays " ++ decimal low ++ 32 ∷ decimal medium ++ 32 ∷ decimal high ++ 32 ∷ decimal critical
saying_words item.Nothing = codes "none"

-- what covers state for a sender; a number of 0 states nothing
abbrev pub stated_at : (ℕ → ℕ) → ℕ → Option Stated
stated_at covers sender = if covers sender == 0 then None else Some (record { sender = sender; number = covers sender })

-- what covers state for the first n senders, by sender
unfoldable pub stated_to : (ℕ → ℕ) → ℕ → List Stated
stated_to covers n = filter_map (stated_at covers) (range_with_len 0 n)

abbrev pub stated_words : Lists → Stated → List ℕ
stated_words setup s = name_at setup s.sender ++ 32 ∷ decimal s.number

-- the first after a space, and each other one after a comma
abbrev pub listed_words : Lists → List Stated → List ℕ
listed_words setup [] = []
listed_words setup (s ∷ ss) = 32 ∷ stated_words setup s ++ flat_map (λ t. codes ", " ++ stated_words setup t) ss

abbrev pub order_words : Lists → RunOrder → List ℕ
order_words setup order = codes "run " ++ date_text order.day ++ listed_words setup (stated_to (slice_index order.covers) (length setup.senders))

abbrev pub body_words : Lists → Body → List ℕ
body_words setup (Saying said) = saying_words said
body_words setup (Run order) = order_words setup order

-- the line of a message
unfoldable pub message_line : Lists → Message → List ℕ
message_line setup message = name_at setup message.sender ++ 32 ∷ decimal message.number ++ 32 ∷ body_words setup message.body ++ 10 ∷ []

abbrev pub line_of : Lists → Result Message MailFault → List ℕ
line_of setup (Ok message) = message_line setup message
line_of setup (Err fault) = []

-- the line of a kept text, which is a message
unfoldable pub text_line : Lists → List ℕ → List ℕ
text_line setup text = line_of setup (read setup text)

-- the lines of all kept messages, by sender and number
abbrev pub list_text : Lists → Kept → List ℕ
list_text setup kept = flat_map (text_line setup) (kept_texts setup kept)
