-- How far each sender's mail is kept without a gap, and what messages up to there say.
use Rattle.std.specs.Prelude.{◌≡◌, ℕ, ◌+◌, ◌<◌, ◌==◌, ◌&&◌, ◌||◌, Bool, true, false, not, length, None}
use Rattle.std.specs.List.{filter_map}
use Rattle.std.specs.FinMap.{get, entries, retain_keys}
use Rattle.testing_rules_model.specs.Covered.{Covered}
use Rattle.office_mail_setup.specs.declared.setup.Role.TheVariants.{Release}
use Rattle.office_mail.specs.Lists.{Lists}
use Rattle.office_mail.specs.Kept.{Kept}
use Rattle.office_mail.specs.Runs.{cover, is_covered, runs}
use Rattle.office_mail.specs.Setup.{place_of_role}
use Rattle.office_core_orders.specs.Ready.{HasNumbers}
use Rattle.office_core_facts.specs.Outcome.{item_at}

-- the release team's sender
abbrev pub release : Lists → ℕ
release setup = place_of_role Release setup.senders

-- a sender's numbers from 1 up to this one are kept, and the next one isn't
pub record IsUnbroken (kept : Kept) (sender number : ℕ) : Type 0 where
  pub each : HasNumbers kept sender number
  pub gap : get kept (sender, number + 1) ≡ None

-- what the kept messages covered by such numbers say
unfoldable pub items_within : Lists → Kept → (ℕ → ℕ) → Covered
items_within setup kept covers = filter_map (item_at setup) (entries (retain_keys kept (is_covered covers)))

-- All that every sender sent without a gap: what a run sees if its order covers all of it.
pub record IsSeen (setup : Lists) (kept : Kept) (seen : Covered) : Type 0 where
  pub covers : ℕ → ℕ
  pub unbroken : (s : ℕ) → s < length setup.senders → IsUnbroken kept s (covers s)
  pub is : seen ≡ items_within setup kept covers

-- A trial covers all that the release team, or every sender, sent without a gap. It covers no further run order.
abbrev pub covers_all : Lists → Bool → ℕ → Bool
covers_all setup all sender = (all || (sender == release setup)) && not (sender == runs setup)

-- how far a trial after run k covers a sender: as far as its mail is unbroken, or as far as the runs up to k cover it
pub record IsTrialCover (setup : Lists) (kept : Kept) (k : ℕ) (all : Bool) (sender number : ℕ) : Type 0 where
  pub unbroken : covers_all setup all sender ≡ true → IsUnbroken kept sender number
  pub known : covers_all setup all sender ≡ false → number ≡ cover setup kept k sender

-- how far it covers each sender
abbrev pub AreTrialCovers : Lists → Kept → ℕ → Bool → (ℕ → ℕ) → Type 0
AreTrialCovers setup kept k all covers = (s : ℕ) → s < length setup.senders → IsTrialCover setup kept k all s (covers s)
