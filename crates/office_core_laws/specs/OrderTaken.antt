-- The next order that an office tells, as the office itself takes it.
use Rattle.std.specs.Prelude.{◌≡◌, ℕ, ◌+◌, ◌≤◌, [], ◌∷◌, length, map, Some, Ok, pos}
use Rattle.std.specs.List.{range_with_len}
use Rattle.jiff_core.specs.declared.civil.date.Date.{Date}
use Rattle.office_mail.specs.Kept.{Kept, kept_from}
use Rattle.office_mail.specs.Lists.{Lists}
use Rattle.office_mail.specs.Read.{read}
use Rattle.office_mail.specs.Runs.{IsReady, order_at, runs}
use Rattle.office_mail.specs.declared.message.Body.TheVariants.{Run}
use Rattle.office_mail.specs.declared.message.RunOrder.{RunOrder}
use Rattle.office_core_queries.specs.NextOrder.{order_cover, order_text}

-- the day is from 1970 on, like each day in a message
pub record IsFrom1970 (day : Date) : Type 0 where
  pub year : ℕ
  pub is : day.year ≡ pos year
  pub low : 1_970 ≤ year

-- the order for this day, from how far each sender's mail has no gap
abbrev pub next_order : Lists → (ℕ → ℕ) → Date → RunOrder
next_order setup unbroken day = record { day = day; covers = map (order_cover setup unbroken) (range_with_len 0 (length setup.senders)) }

-- the kept mail once the text of that order has come
abbrev pub with_order : Lists → Kept → (ℕ → ℕ) → Date → Kept
with_order setup kept unbroken day = kept_from setup kept (order_text setup unbroken day ∷ [])

-- The text is read as that order, from the sender of runs, under its next number. Once it has come, it is the order of that
-- run, which is ready if all earlier ones are.
pub record IsTaken (setup : Lists) (kept : Kept) (unbroken : ℕ → ℕ) (day : Date) : Type 0 where
  pub reads : read setup (order_text setup unbroken day) ≡ Ok (record { sender = runs setup; number = unbroken (runs setup) + 1; body = Run (next_order setup unbroken day) })
  pub order : order_at setup (with_order setup kept unbroken day) (unbroken (runs setup) + 1) ≡ Some (next_order setup unbroken day)
  pub ready : IsReady setup kept (unbroken (runs setup)) → IsReady setup (with_order setup kept unbroken day) (unbroken (runs setup) + 1)
