-- The numbers that are kept of a sender.
use Rattle.std.specs.Prelude.{◌≡◌, ℕ, ◌<◌, None}
use Rattle.std.specs.FinMap.{get}
use Rattle.office_mail.specs.Kept.{Kept}

-- nothing is kept of a sender above the greatest number of a message
abbrev pub EndsBelow : Kept → ℕ → Type 0
EndsBelow kept sender = (number : ℕ) → 999_999_999 < number → get kept (sender, number) ≡ None
