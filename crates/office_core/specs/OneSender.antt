-- What mail of one sender can change. That senders may say only some kinds is decided by this office (`role_needed`).
use Rattle.std.specs.Prelude.{◌≡◌, ◌≢◌, ℕ, ◌≤◌, Option, slice_get, option_map}
use Rattle.std.specs.FinMap.{get}
use Rattle.testing_rules_model.specs.Covered.{Covered, uploads_in, drops_in, builds_in, bugs_in, hints_in, unhints_in, delays_in}
use Rattle.office_mail_setup.specs.declared.setup.Role.{Role}
use Rattle.office_mail_setup.specs.declared.setup.Role.TheVariants.{Upload, Build, Bugs, Release}
use Rattle.office_mail.specs.Kept.{Kept, Place}
use Rattle.office_mail.specs.Lists.{Lists}
use Rattle.office_mail.specs.Runs.{cover, runs}

-- two kept maps differ in mail of this sender alone
abbrev pub ButOf : ℕ → Kept → Kept → Type 0
ButOf sender a b = (p : Place) → p.0 ≢ sender → get a p ≡ get b p

-- and in none that run k covers; the sender isn't that of run orders
pub record IsUnseen (setup : Lists) (sender k : ℕ) (a b : Kept) : Type 0 where
  pub alone : ButOf sender a b
  pub other : sender ≢ runs setup
  pub beyond : (number : ℕ) → 1 ≤ number → number ≤ cover setup a k sender → get a (sender, number) ≡ get b (sender, number)

-- the role of the sender at a place
abbrev pub role_at : Lists → ℕ → Option Role
role_at setup sender = option_map (λ s. s.role) (slice_get setup.senders sender)

-- two sets of messages say the same, but for what a sender of this role may say
pub record DifferByRole (role : Role) (x y : Covered) : Type 0 where
  pub uploads : role ≢ Upload → uploads_in x ≡ uploads_in y
  pub drops : role ≢ Upload → drops_in x ≡ drops_in y
  pub builds : role ≢ Build → builds_in x ≡ builds_in y
  pub bugs : role ≢ Bugs → bugs_in x ≡ bugs_in y
  pub hints : role ≢ Release → hints_in x ≡ hints_in y
  pub unhints : role ≢ Release → unhints_in x ≡ unhints_in y
  pub delays : role ≢ Release → delays_in x ≡ delays_in y
