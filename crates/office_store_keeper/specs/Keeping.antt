-- What is true of the calls of every keeper.
use Rattle.std.specs.Prelude.{◌≡◌, ◌≢◌, ◌≤◌, ◌⊎◌, ℕ, Result, Err, OnOk}
use Rattle.office_mail.specs.Counts.{HasRisen}
use Rattle.office_mail.specs.Lists.{Lists}
use Rattle.office_store_keeper.specs.Content.{Content}
use Rattle.office_store_keeper.specs.Provenance.{AreOwnTexts}
use Rattle.office_store_keeper.specs.declared.faults.Cause.TheVariants.{BadRow}
use Rattle.office_store_keeper.specs.declared.faults.KeepFault.{KeepFault}
use Rattle.office_store_keeper.specs.declared.faults.KeepFault.TheVariants.{Store}

-- a refusal of the store is counted, and no other result
abbrev pub Counted : {T : Type 0} → ℕ → ℕ → Result T KeepFault → Type 0
Counted before after (Err (Store cause)) = HasRisen before after
Counted before after _ = after ≡ before

-- What each call keeps. The setup stays, no call makes a store clean or trusted, and no failure of the disk is
-- forgotten. A clean store that was trusted stays so if the call went well, and otherwise unless the disk failed. A
-- store that stays trusted, is legible and has each text at its own place has no bad row, and refusals are counted.
pub record Keeps {K T : Type 0} (is_clean is_trusted is_legible : K → Type 0) (lists : K → Lists) (content : K → Content) (refusals disk_faults : K → ℕ) (old new : K) (result : Result T KeepFault) : Type 0 where
  pub setup : lists new ≡ lists old
  pub clean : is_clean new → is_clean old
  pub faults : disk_faults old ≤ disk_faults new
  pub before : is_trusted new → is_trusted old
  pub stays : is_clean new → is_trusted old → OnOk result (is_trusted new)
  pub shut : is_clean new → is_trusted old → is_trusted new ⊎ HasRisen (disk_faults old) (disk_faults new)
  pub bad : is_trusted new → is_legible old → AreOwnTexts (lists old) (content old).kept → result ≢ Err (Store BadRow)
  pub counted : Counted (refusals old) (refusals new) result

-- What a call keeps that only reads: beside these, the content of a store that stays trusted, and its being legible.
pub record OnlyReads {K T : Type 0} (is_clean is_trusted is_legible : K → Type 0) (lists : K → Lists) (content : K → Content) (refusals disk_faults : K → ℕ) (old new : K) (result : Result T KeepFault) : Type 0 where
  pub keeps : Keeps is_clean is_trusted is_legible lists content refusals disk_faults old new result
  pub same : is_trusted new → content new ≡ content old
  pub legible : is_trusted new → is_legible old → is_legible new
