-- How contracts see a keeper over tables.
use Rattle.std.specs.Prelude.{◌≡◌, ℕ, Option, IfSome, refl}
use Rattle.std.specs.Coded.{Coded, code_by, coded×, coded_ℕ, coded_option}
use Rattle.sqlite.specs.Tree.{Trees}
use Rattle.testing_rules_model.specs.Suite.{Suite}
use Rattle.office_mail.specs.Lists.{Lists}
use Rattle.office_store_tables.specs.TableContent.{content_in}
use Rattle.office_store_tables.specs.Legible.{IsLegible}

pub record TablesState (C : Type 0) : Type 0 where
  -- the connection, with the content of its tables
  pub conn : C
  -- the setup that the tables were made for
  pub setup : Lists
  -- how often the store refused
  pub refusals : ℕ
  -- the testing kept in memory for the next run, or none
  pub in_memory : Option Suite

-- the state, coded by its parts
abbrev pub coded_state : {C : Type 0} → Coded C → Coded Lists → Coded Suite → Coded (TablesState C)
coded_state {C} conn setup suite =
    code_by (C × (Lists × (ℕ × Option Suite))) (coded× conn (coded× setup (coded× coded_ℕ (coded_option suite))))
    (λ t. (t.conn, (t.setup, (t.refusals, t.in_memory))))
    (λ p. record { conn = p.0; setup = p.1.0; refusals = p.1.1.0; in_memory = p.1.1.1 })
    (λ _. refl)

-- the tables are what an office writes, and testing in memory is what they contain
pub record IsLegibleStore (setup : Lists) (db : Trees) (in_memory : Option Suite) : Type 0 where
  pub tables : IsLegible setup db
  pub testing : IfSome in_memory (λ testing. testing ≡ (content_in setup db).testing)
