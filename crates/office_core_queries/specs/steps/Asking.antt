-- Steps beside `specs/Asking.antt`.
use Rattle.std.specs.Prelude.{◌≡◌, ℕ, Result, Err}
use Rattle.office_mail.specs.Counts.{HasRisen}
use Rattle.office_core_queries.specs.declared.faults.AskFault.{AskFault}
use Rattle.office_core_queries.specs.declared.faults.AskFault.TheVariants.{Store, Write}

-- what a call counts that asks no store: the writer its failures
abbrev pub CountsWrites : {T : Type 0} → ℕ → ℕ → Result T AskFault → Type 0
CountsWrites failed fails (Err Store) = ⊥
CountsWrites failed fails (Err Write) = HasRisen failed fails
CountsWrites failed fails _ = fails ≡ failed
