-- How far each sender's mail is kept without a gap.
use Rattle.std.specs.Prelude.{ℕ}
use Rattle.office_mail.specs.Kept.{Kept}
use Rattle.office_core_facts.specs.Seen.{IsUnbroken}

-- of each sender all numbers from 1 up to its own in this list are kept, and the next one isn't
pub record AreUnbroken (kept : Kept) (unbroken : ℕ → ℕ) : Type 0 where
  pub each : (sender : ℕ) → IsUnbroken kept sender (unbroken sender)
