-- Roles are the same if they have the same word.
use Rattle.std.proofs.Common.{◌≡◌, true, false, refl}
use Rattle.office_mail_setup.specs.declared.setup.Role.{Role}
use Rattle.office_mail_setup.specs.declared.setup.Role.TheVariants.{Upload, Build, Bugs, Release, Runs}
use Rattle.office_mail_setup.specs.Setup.{same_role}

pub itself : (role : Role) → same_role role role ≡ true
itself Upload = refl
itself Build = refl
itself Bugs = refl
itself Release = refl
itself Runs = refl

each_role : (P : Role → Type 0) → P Upload → P Build → P Bugs → P Release → P Runs → (role : Role) → P role
each_role P a b c d e Upload = a
each_role P a b c d e Build = b
each_role P a b c d e Bugs = c
each_role P a b c d e Release = d
each_role P a b c d e Runs = e

never : false ≡ true → ⊥
never e = cc

-- two of the same word are one
abbrev AreOne : Role → Role → Type 0
AreOne a b = same_role a b ≡ true → a ≡ b

pub is_same : (a b : Role) → same_role a b ≡ true → a ≡ b
is_same Upload = each_role (AreOne Upload) (λ e. refl) (λ e. absurd (never e)) (λ e. absurd (never e)) (λ e. absurd (never e)) (λ e. absurd (never e))
is_same Build = each_role (AreOne Build) (λ e. absurd (never e)) (λ e. refl) (λ e. absurd (never e)) (λ e. absurd (never e)) (λ e. absurd (never e))
is_same Bugs = each_role (AreOne Bugs) (λ e. absurd (never e)) (λ e. absurd (never e)) (λ e. refl) (λ e. absurd (never e)) (λ e. absurd (never e))
is_same Release = each_role (AreOne Release) (λ e. absurd (never e)) (λ e. absurd (never e)) (λ e. absurd (never e)) (λ e. refl) (λ e. absurd (never e))
is_same Runs = each_role (AreOne Runs) (λ e. absurd (never e)) (λ e. absurd (never e)) (λ e. absurd (never e)) (λ e. absurd (never e)) (λ e. refl)
