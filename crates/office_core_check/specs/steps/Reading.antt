-- The next kept text of a sender, and mail that was taken up to a place.
use Rattle.std.specs.Prelude.{◌≡◌, ◌≢◌, ◌⊎◌, ℕ, ◌<◌, ◌≤◌, Option, Some, None, Result, Ok, Err, ⊤}
use Rattle.std.specs.FinMap.{get}
use Rattle.office_mail.specs.declared.message.MailFault.TheVariants as mail
use Rattle.office_mail.specs.Kept.{Kept, Place}
use Rattle.office_store_keeper.specs.declared.values.Letter.{Letter}
use Rattle.office_core_replies.specs.declared.faults.DeliverFault.{DeliverFault}
use Rattle.office_core_replies.specs.declared.faults.DeliverFault.TheVariants.{Mail, OtherText, Store}
use Rattle.office_core_replies.specs.declared.faults.Held.{Held}

-- a number that isn't below another, or none
abbrev pub IsFrom : ℕ → Option ℕ → Type 0
IsFrom from None = ⊤
IsFrom from (Some n) = from ≤ n

-- the same of a letter
abbrev pub IsLetterFrom : ℕ → Option Letter → Type 0
IsLetterFrom from None = ⊤
IsLetterFrom from (Some letter) = from ≤ letter.number

-- nothing is kept of a sender from one number on and below another
abbrev pub NoneWithin : Kept → ℕ → ℕ → ℕ → Type 0
NoneWithin kept sender from n = (m : ℕ) → from ≤ m → m < n → get kept (sender, m) ≡ None

-- the first kept letter of a sender from a number on; none if no such letter is kept
abbrev pub IsNextLetter : Kept → ℕ → ℕ → Option Letter → Type 0
IsNextLetter kept sender from None = (m : ℕ) → from ≤ m → get kept (sender, m) ≡ None
IsNextLetter kept sender from (Some letter) = (from ≤ letter.number) × (get kept (sender, letter.number) ≡ Some letter.text) × NoneWithin kept sender from letter.number

-- Of the kept mail it has that of earlier senders, and of this sender the numbers below another, and nothing else.
pub record IsFront (kept : Kept) (sender from : ℕ) (front : Kept) : Type 0 where
  pub before : (p : Place) → p.0 < sender → get front p ≡ get kept p
  pub below : (n : ℕ) → n < from → get front (sender, n) ≡ get kept (sender, n)
  pub above : (n : ℕ) → from ≤ n → get front (sender, n) ≡ None
  pub behind : (p : Place) → sender < p.0 → get front p ≡ None

-- an answer that neither holds a message under this sender and number nor reports exhausted memory or a failed store
abbrev pub IsOther : ℕ → ℕ → Result Held DeliverFault → Type 0
IsOther sender number (Ok held) = (held ≢ record { sender = sender; number = number }) ⊎ (999_999_999 < number)
IsOther sender number (Err (Mail mail.NoMemory)) = ⊥
IsOther sender number (Err (Mail fault)) = ⊤
IsOther sender number (Err OtherText) = ⊤
IsOther sender number (Err Store) = ⊥
