-- All kept mail, text by text.
use Rattle.std.specs.Prelude.{ℕ, List, map, length, flat_map}
use Rattle.std.specs.List.{range_with_len}
use Rattle.office_mail.specs.Bag.{framed}
use Rattle.office_mail.specs.Kept.{Kept}
use Rattle.office_mail.specs.Lists.{Lists}
use Rattle.office_store_keeper.specs.declared.values.Letter.{Letter}
use Rattle.office_core_queries.specs.Mail.{letters_of}

-- the kept texts of a sender, by number
abbrev pub sender_texts : Kept → ℕ → List (List ℕ)
sender_texts kept sender = map (λ (l : Letter). l.text) (letters_of kept sender)

-- the kept texts of the first n senders, by sender and number
unfoldable pub texts_to : Kept → ℕ → List (List ℕ)
texts_to kept n = flat_map (sender_texts kept) (range_with_len 0 n)

-- all kept texts, by sender and number
abbrev pub kept_texts : Lists → Kept → List (List ℕ)
kept_texts setup kept = texts_to kept (length setup.senders)

-- the bag of all kept mail
abbrev pub kept_bag : Lists → Kept → List ℕ
kept_bag setup kept = flat_map framed (kept_texts setup kept)
