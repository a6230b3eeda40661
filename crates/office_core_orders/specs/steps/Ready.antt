-- Steps beside `specs/Ready.antt`.
use Rattle.std.specs.Prelude.{◌≡◌, ℕ, ◌+◌, ◌<◌, ◌≤◌, List, length, slice_index, None, IsSome}
use Rattle.std.specs.FinMap.{get}
use Rattle.office_mail.specs.declared.message.RunOrder.{RunOrder}
use Rattle.office_mail.specs.Lists.{Lists}
use Rattle.office_mail.specs.Kept.{Kept}
use Rattle.office_mail.specs.Runs.{order_at, orders_to}
use Rattle.office_store_keeper.specs.Content.{Content}
use Rattle.office_core_orders.specs.Ready.{HasNumbers, HasEach}

-- these are run orders 1, 2, .. without a gap
pub record FirstOrders (setup : Lists) (kept : Kept) (orders : List RunOrder) : Type 0 where
  pub same : orders ≡ orders_to setup kept (length orders)
  pub each : (j : ℕ) → 1 ≤ j → j ≤ length orders → IsSome (order_at setup kept j)

-- After a number a sender's numbers continue without a gap up to another. After that comes none, unless it is the end.
pub record GoesOn (kept : Kept) (sender number last end : ℕ) : Type 0 where
  pub each : HasNumbers kept sender number → HasNumbers kept sender last
  pub gap : last < end → get kept (sender, last + 1) ≡ None

-- a sender's count reaches its cover, or the next number is missing
abbrev pub IsReached : Kept → List ℕ → List ℕ → ℕ → Type 0
IsReached kept covers counts s = slice_index counts s < slice_index covers s → get kept (s, slice_index counts s + 1) ≡ None

-- What an office knows of its store's mail. For each sender that many numbers are kept, maybe more; and these are the
-- first orders, at most up to the next run's.
pub record IsCounted (setup : Lists) (content : Content) (counts : List ℕ) (orders : List RunOrder) : Type 0 where
  pub numbers : HasEach content.kept counts
  pub first : FirstOrders setup content.kept orders
  pub next : length orders ≤ length content.reports + 1
