-- The last delays covered by finished runs.
use Rattle.std.specs.Prelude.{◌≡◌, ◌≤◌, ℕ, length, Option, Some, None, IsSome}
use Rattle.std.specs.FinMap.{insert}
use Rattle.testing_rules_model.specs.Covered.{CoveredItem, delays_of}
use Rattle.testing_rules_model.specs.declared.fact_row.FactKind.TheVariants.{Delays}
use Rattle.testing_rules_model.specs.declared.fact_row.FactRow.{FactRow}
use Rattle.office_mail_setup.specs.declared.setup.Role.TheVariants.{Release}
use Rattle.office_mail.specs.Kept.{Kept}
use Rattle.office_mail.specs.Lists.{Lists}
use Rattle.office_mail.specs.Runs.{cover}
use Rattle.office_mail.specs.Setup.{place_of_role}
use Rattle.office_store_keeper.specs.Content.{Content}
use Rattle.office_store_keeper.specs.FactSet.{FactSet}
use Rattle.office_store_keeper.specs.Provenance.{IsSaid}

-- the release team's message with this number is kept and sets delays
abbrev pub TellsDelays : Lists → Kept → ℕ → Type 0
TellsDelays setup kept number = (m : CoveredItem) × (m.sender ≡ place_of_role Release setup.senders) × (m.number ≡ number) × IsSaid setup kept m × IsSome (delays_of m)

-- the greatest number up to a cover whose message of the release team sets delays, if there is one
abbrev pub IsLastTold : Lists → Kept → ℕ → Option ℕ → Type 0
IsLastTold setup kept cover None = (n : ℕ) → 1 ≤ n → n ≤ cover → TellsDelays setup kept n → ⊥
IsLastTold setup kept cover (Some last) = (1 ≤ last) × (last ≤ cover) × TellsDelays setup kept last × ((n : ℕ) → 1 ≤ n → n ≤ cover → TellsDelays setup kept n → n ≤ last)

-- the row of the release team's delays under a number
abbrev pub release_delays : Lists → ℕ → FactRow
release_delays setup number = record { kind = Delays; sender = place_of_role Release setup.senders; number = number; place = 0 }

-- rows of facts with that of the last delays, if there is one
abbrev pub with_last : Lists → Option ℕ → FactSet → FactSet
with_last setup None facts = facts
with_last setup (Some number) facts = insert facts (release_delays setup number) tt

-- The content is the same, with the row of the last delays that the release team set up to the cover of the finished
-- runs.
pub record GetsLast (setup : Lists) (old new : Content) : Type 0 where
  pub last : Option ℕ
  pub last_is : IsLastTold setup old.kept (cover setup old.kept (length old.reports) (place_of_role Release setup.senders)) last
  pub same : new ≡ record old { facts = with_last setup last old.facts }
