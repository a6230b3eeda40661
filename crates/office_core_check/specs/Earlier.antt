-- The office in memory that equals what an earlier run of a store left. To have one is this office's own.
use Rattle.std.specs.Prelude.{◌≡◌, ℕ, ◌-◌, List, length, Option, Some, None}
use Rattle.office_mail.specs.Kept.{Kept}
use Rattle.office_mail.specs.Lists.{Lists}
use Rattle.office_store_keeper.specs.Content.{Content}
use Rattle.office_store_keeper.specs.MemoryState.{content_of}
use Rattle.office_core_facts.specs.State.{IsOffice}
use Rattle.office_core_why.specs.Why.{IsWhyAfter}
use Rattle.office_core_why.specs.declared.WhyText.{WhyText}
use Rattle.office_core_check.specs.Whole.{IsFinished}
use Rattle.office_core_check.specs.declared.memory.Bounded.{Bounded}

-- an office holds what one of this setup leaves that took this mail and finished exactly the runs up to run k
pub record HoldsAfter (setup : Lists) (kept : Kept) (k : ℕ) (office : Bounded) : Type 0 where
  pub setup_is : office.plain.setup ≡ setup
  pub kept_is : (content_of office.plain).kept ≡ kept
  pub finished : length (content_of office.plain).reports ≡ k
  pub sound : IsOffice office.plain.setup (content_of office.plain)

-- The office as a run of a store left it, over all mail that the store keeps. There is none if the run isn't finished.
-- If it is finished, there is none only if no office leaves that store.
abbrev pub IsAfter : Lists → Content → ℕ → Option Bounded → Type 0
IsAfter setup content run None = IsFinished content run → IsOffice setup content → ⊥
IsAfter setup content run (Some office) = IsFinished content run × HoldsAfter setup content.kept run office

-- The office as it was before a run of a store: it finished the runs up to the one before, over all mail that the store
-- keeps. There is none if the run isn't finished. If it is finished, there is none only if no office leaves that store.
abbrev pub IsBefore : Lists → Content → ℕ → Option Bounded → Type 0
IsBefore setup content run None = IsFinished content run → IsOffice setup content → ⊥
IsBefore setup content run (Some office) = IsFinished content run × HoldsAfter setup content.kept (run - 1) office

-- What an office with that many finished runs reports on a source for a run: why the source is where that run left it.
-- It reports nothing for any run but the last finished one, nor if no run is finished.
abbrev pub IsToldOfRun : Lists → Kept → ℕ → ℕ → List ℕ → Option WhyText → Type 0
IsToldOfRun setup kept finished run source None = run ≡ finished → run ≡ 0
IsToldOfRun setup kept finished run source (Some why) = (run ≡ finished) × IsWhyAfter setup kept run source why

-- why a source is where a run left it
abbrev pub IsToldAfter : Lists → Kept → ℕ → List ℕ → Option WhyText → Type 0
IsToldAfter setup kept run source None = ⊥
IsToldAfter setup kept run source (Some why) = IsWhyAfter setup kept run source why
