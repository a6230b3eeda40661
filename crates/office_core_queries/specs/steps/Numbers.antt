-- The next kept number of a sender, and what is counted of the numbers up to it.
use Rattle.std.specs.Prelude.{◌≡◌, ◌⊎◌, ℕ, ◌+◌, ◌<◌, ◌≤◌, ◌==◌, length, map, if◌then◌else◌, Option, Some, None, ⊤}
use Rattle.std.specs.FinMap.{get}
use Rattle.office_mail.specs.Kept.{Kept}
use Rattle.office_mail.specs.Runs.{greatest}
use Rattle.office_store_keeper.specs.declared.values.Letter.{Letter}
use Rattle.office_store_keeper.specs.Content.{letters_within}
use Rattle.office_core_orders.specs.Ready.{HasNumbers}
use Rattle.office_core_queries.specs.declared.mail.MailCount.{MailCount}

-- a number above another that a message may have, or none
abbrev pub IsAbove : ℕ → Option ℕ → Type 0
IsAbove last None = ⊤
IsAbove last (Some n) = (last < n) × (n ≤ 999_999_999)

-- the same of a letter
abbrev pub IsLetterAbove : ℕ → Option Letter → Type 0
IsLetterAbove last None = ⊤
IsLetterAbove last (Some letter) = (last < letter.number) × (letter.number ≤ 999_999_999)

-- a letter has this number
abbrev pub HasNumber : ℕ → Option Letter → Type 0
HasNumber number None = ⊤
HasNumber number (Some letter) = letter.number ≡ number

-- nothing is kept of a sender above one number and below another
abbrev pub NoneBetween : Kept → ℕ → ℕ → ℕ → Type 0
NoneBetween kept sender last n = (m : ℕ) → last < m → m < n → get kept (sender, m) ≡ None

-- nothing is kept of a sender above a number
abbrev pub NoneAbove : Kept → ℕ → ℕ → Type 0
NoneAbove kept sender last = (m : ℕ) → last < m → get kept (sender, m) ≡ None

-- the first kept letter of a sender above a number; none if no such letter is kept
abbrev pub IsNextLetter : Kept → ℕ → ℕ → Option Letter → Type 0
IsNextLetter kept sender last None = NoneAbove kept sender last
IsNextLetter kept sender last (Some letter) = (last < letter.number) × (get kept (sender, letter.number) ≡ Some letter.text) × NoneBetween kept sender last letter.number

-- the counts with one more number, which is above all that were counted
abbrev pub with_number : MailCount → ℕ → MailCount
with_number c n = record { sender = c.sender; count = c.count + 1; unbroken = if n == c.unbroken + 1 then n else c.unbroken; greatest = n }

-- what is counted of a sender's numbers up to the greatest so far
pub record IsCountSoFar (kept : Kept) (c : MailCount) : Type 0 where
  pub all : c.count ≡ length (letters_within kept c.sender 1 c.greatest)
  pub each : HasNumbers kept c.sender c.unbroken
  pub gap : (c.unbroken ≡ c.greatest) ⊎ (get kept (c.sender, c.unbroken + 1) ≡ None)
  pub last : c.greatest ≡ greatest (map (λ (l : Letter). l.number) (letters_within kept c.sender 1 c.greatest))
