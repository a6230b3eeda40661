-- What the first run that isn't ready waits for.
use Rattle.std.specs.Prelude.{◌≡◌, ℕ, ◌-◌, ◌<◌, ◌≤◌, ◌↔◌, List, map, length, slice_index, Contains, Option, Some, None, ⊤}
use Rattle.std.specs.FinMap.{get}
use Rattle.std.specs.List.Sorted.{IsStrictlySortedBy}
use Rattle.std.specs.Ordering.{nat_cmp}
use Rattle.office_mail.specs.declared.message.RunOrder.{RunOrder}
use Rattle.office_mail.specs.Lists.{Lists}
use Rattle.office_mail.specs.Kept.{Kept}
use Rattle.office_mail.specs.Runs.{order_at}
use Rattle.office_core_orders.specs.declared.wait_lines.Lack.{Lack}
use Rattle.office_core_orders.specs.declared.wait_lines.Awaited.{Awaited}
use Rattle.office_core_orders.specs.declared.wait_lines.Awaited.TheVariants.{Order, Mail}
use Rattle.office_core_orders.specs.Ready.{HasNumbers}

-- a sender's first gap: its numbers from 1 up to this one are kept, and this one isn't
pub record IsFirstGap (kept : Kept) (sender number : ℕ) : Type 0 where
  pub above : 1 ≤ number
  pub before : HasNumbers kept sender (number - 1)
  pub missing : get kept (sender, number) ≡ None

-- a sender's gap by an order: its first gap, if the order states that number for it, or a greater one
pub record IsLack (kept : Kept) (order : RunOrder) (lack : Lack) : Type 0 where
  pub gap : IsFirstGap kept lack.sender lack.number
  pub cover : lack.cover ≡ slice_index order.covers lack.sender
  pub stated : lack.number ≤ lack.cover

-- the gaps of the first n senders by an order, by sender
pub record AreLacks (kept : Kept) (order : RunOrder) (n : ℕ) (lacks : List Lack) : Type 0 where
  pub each : (lack : Lack) → Contains lacks lack ↔ ((lack.sender < n) × IsLack kept order lack)
  pub by_sender : IsStrictlySortedBy nat_cmp (map (λ (lack : Lack). lack.sender) lacks)

-- A run waits for its order if that isn't kept, and else for mail of exactly the senders with a gap by the order.
abbrev pub AwaitsBy : Lists → Kept → Option RunOrder → Awaited → Type 0
AwaitsBy setup kept None Order = ⊤
AwaitsBy setup kept None (Mail lacks) = ⊥
AwaitsBy setup kept (Some order) Order = ⊥
AwaitsBy setup kept (Some order) (Mail lacks) = AreLacks kept order (length setup.senders) lacks.items

-- what run k waits for, if the run before it is ready
abbrev pub Awaits : Lists → Kept → ℕ → Awaited → Type 0
Awaits setup kept k awaited = AwaitsBy setup kept (order_at setup kept k) awaited

-- a run waits for something
abbrev pub AwaitsSome : Awaited → Type 0
AwaitsSome Order = ⊤
AwaitsSome (Mail lacks) = 1 ≤ length lacks.items
