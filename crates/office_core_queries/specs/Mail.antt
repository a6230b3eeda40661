-- How much mail is kept of each sender, and the text on it.
use Rattle.std.specs.Prelude.{◌≡◌, ℕ, ◌+◌, ◌==◌, List, [], ◌∷◌, ◌++◌, length, map, codes, decimal, flat_map, if◌then◌else◌, None}
use Rattle.std.specs.List.{AllByRecursion, range_with_len}
use Rattle.std.specs.FinMap.{get}
use Rattle.office_mail.specs.Lists.{Lists}
use Rattle.office_mail.specs.Kept.{Kept}
use Rattle.office_mail.specs.Runs.{greatest}
use Rattle.office_store_keeper.specs.declared.values.Letter.{Letter}
use Rattle.office_store_keeper.specs.Content.{letters_within}
use Rattle.office_core_replies.specs.Replies.{name_at}
use Rattle.office_core_orders.specs.Ready.{HasNumbers}
use Rattle.office_core_queries.specs.declared.mail.MailCount.{MailCount}

-- all kept mail of a sender with its numbers, by number: a message has a number from 1 to 999,999,999
abbrev pub letters_of : Kept → ℕ → List Letter
letters_of kept sender = letters_within kept sender 1 999_999_999

-- The counts of a sender's mail: how many messages, the number up to which it has no gap, and the greatest or 0.
pub record IsMailCount (kept : Kept) (c : MailCount) : Type 0 where
  pub all : c.count ≡ length (letters_of kept c.sender)
  pub each : HasNumbers kept c.sender c.unbroken
  pub gap : get kept (c.sender, c.unbroken + 1) ≡ None
  pub last : c.greatest ≡ greatest (map (λ (l : Letter). l.number) (letters_of kept c.sender))

-- these are the counts of the first n senders, one for each, in order
pub record AreMailCounts (kept : Kept) (n : ℕ) (counts : List MailCount) : Type 0 where
  pub senders : map (λ (c : MailCount). c.sender) counts ≡ range_with_len 0 n
  pub each : AllByRecursion (IsMailCount kept) counts

-- the number up to which there is no gap; nothing if number 1 isn't kept
abbrev pub unbroken_words : ℕ → List ℕ
unbroken_words n = if n == 0 then [] else codes ", 1 to " ++ decimal n

-- the greatest number of those that are kept; nothing if none is
abbrev pub greatest_words : ℕ → ℕ → List ℕ
greatest_words count n = if count == 0 then [] else codes ", greatest " ++ decimal n

-- the line on a sender's mail
abbrev pub mail_line : Lists → MailCount → List ℕ
mail_line setup c = codes "mail " ++ name_at setup c.sender ++ 32 ∷ decimal c.count ++ codes " kept" ++ unbroken_words c.unbroken ++ greatest_words c.count c.greatest ++ 10 ∷ []

-- the lines on the mail of all senders
unfoldable pub mail_text : Lists → List MailCount → List ℕ
mail_text setup counts = flat_map (mail_line setup) counts
