-- The run that a trial of hints tells of, once the hints and the run's order have come.
use Rattle.std.specs.Prelude.{◌≡◌, ℕ, ◌+◌, ◌<◌, ◌==◌, if◌then◌else◌, List, length, slice_index, Contains, Some}
use Rattle.std.specs.FinMap.{get}
use Rattle.jiff_core.specs.declared.civil.date.Date.{Date}
use Rattle.office_mail.specs.declared.message.RunOrder.{RunOrder}
use Rattle.office_mail.specs.Lists.{Lists}
use Rattle.office_mail.specs.Kept.{Kept, Within}
use Rattle.office_mail.specs.Runs.{order_at}
use Rattle.office_store_keeper.specs.declared.values.Letter.{Letter}
use Rattle.office_core_facts.specs.Outcome.{item_at}
use Rattle.office_core_facts.specs.Seen.{release}
use Rattle.office_core_outcome.specs.Hints.{hint_letters}

-- what is kept of a sender under the letter's number says what the letter does, in whatever fields
pub record IsSaid (setup : Lists) (kept : Kept) (sender : ℕ) (letter : Letter) : Type 0 where
  pub text : List ℕ
  pub there : get kept (sender, letter.number) ≡ Some text
  pub says : item_at setup ((sender, letter.number), text) ≡ item_at setup ((sender, letter.number), letter.text)

-- the same of each of the letters
abbrev pub AreSaid : Lists → Kept → ℕ → List Letter → Type 0
AreSaid setup kept sender letters = (letter : Letter) → Contains letters letter → IsSaid setup kept sender letter

-- the covers of a trial with that many hints
abbrev pub covers_with : Lists → (ℕ → ℕ) → ℕ → ℕ → ℕ
covers_with setup covers count sender = if sender == release setup then covers sender + count else covers sender

-- Later mail holds what is kept, messages that say the hints, and the order of run k + 1, which has the date of a trial
-- and covers what the trial did, and the hints.
pub record HasCome (setup : Lists) (kept late : Kept) (k : ℕ) (date : Date) (covers : ℕ → ℕ) (hints : List (List ℕ)) : Type 0 where
  pub within : Within kept late
  pub letters : AreSaid setup late (release setup) (hint_letters setup (covers (release setup)) hints)
  pub order : RunOrder
  pub ordered : order_at setup late (k + 1) ≡ Some order
  pub day : order.day ≡ date
  pub stated : (s : ℕ) → s < length setup.senders → slice_index order.covers s ≡ covers_with setup covers (length hints) s
