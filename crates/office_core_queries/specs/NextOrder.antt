-- The message of the next order to run, over all mail kept without a gap. This office decided to write it.
use Rattle.std.specs.Prelude.{ℕ, ◌+◌, ◌==◌, if◌then◌else◌, List, [], ◌∷◌, ◌++◌, length, codes, decimal}
use Rattle.jiff_core.specs.declared.civil.date.Date.{Date}
use Rattle.jiff.specs.Words.{date_text}
use Rattle.office_mail.specs.Lists.{Lists}
use Rattle.office_mail.specs.Runs.{runs}
use Rattle.office_core_replies.specs.Replies.{name_at}
use Rattle.office_core_queries.specs.Listing.{listed_words, stated_to}

-- how far the order covers a sender: all that has no gap; it covers no order
abbrev pub order_cover : Lists → (ℕ → ℕ) → ℕ → ℕ
order_cover setup unbroken sender = if sender == runs setup then 0 else unbroken sender

-- the message of the order after those kept without a gap, for this day, from how far each sender's mail has no gap
unfoldable pub order_text : Lists → (ℕ → ℕ) → Date → List ℕ
order_text setup unbroken day =
    codes "From: " ++ name_at setup (runs setup) ++ 10 ∷ codes "Number: " ++ decimal (unbroken (runs setup) + 1) ++ 10 ∷ codes "Kind: run" ++ 10 ∷ codes "Day: " ++ date_text day
    ++ 10 ∷ codes "Covers:" ++ listed_words setup (stated_to (order_cover setup unbroken) (length setup.senders)) ++ 10 ∷ []
