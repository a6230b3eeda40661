-- What is known next to the mail: run orders, and numbers without a gap.
use Rattle.std.specs.Prelude.{ℕ, ◌≤◌, List, slice_index, IsSome}
use Rattle.std.specs.FinMap.{get}
use Rattle.office_mail.specs.Lists.{Lists}
use Rattle.office_mail.specs.Kept.{Kept, Place, IsPlace}

-- a sender's numbers 1 to n are kept
abbrev pub HasNumbers : Kept → ℕ → ℕ → Type 0
HasNumbers kept sender n = (j : ℕ) → 1 ≤ j → j ≤ n → IsSome (get kept (sender, j))

-- for each sender that many numbers are kept, 0 if it has no entry
abbrev pub HasEach : Kept → List ℕ → Type 0
HasEach kept counts = (s : ℕ) → HasNumbers kept s (slice_index counts s)

-- each kept text is at a place that a message may have
abbrev pub HasPlaces : Lists → Kept → Type 0
HasPlaces setup kept = (p : Place) → IsSome (get kept p) → IsPlace setup p
