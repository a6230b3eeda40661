-- How migrating a store of schema 1 changes its tables.
use Rattle.std.specs.Prelude.{◌≡◌, ◌≤◌, ℕ, List, [], ◌∷◌, Option, Some, None, IsSome}
use Rattle.std.specs.FinMap.{get}
use Rattle.sqlite.specs.Order.{Row}
use Rattle.sqlite.specs.Tree.{Trees}
use Rattle.sqlite_rules.specs.Lists.{Has}
use Rattle.office_mail.specs.declared.message.Message.{Message}
use Rattle.office_mail.specs.declared.message.RunOrder.{RunOrder}
use Rattle.office_mail.specs.Kept.{Kept}
use Rattle.office_mail.specs.Lists.{Lists}
use Rattle.office_mail.specs.Runs.{runs, cover, order_in_body}
use Rattle.office_store_keeper.specs.Content.{Content}
use Rattle.office_store_keeper.specs.LastDelays.{IsLastTold}
use Rattle.office_store_tables.specs.declared.said.Said.{Said}
use Rattle.office_store_tables.specs.Tables.{IsWhole, kept_rows, office_in, said_in}
use Rattle.office_store_tables.specs.TableContent.{message_at, release_place, content_in}
use Rattle.office_store_tables.specs.FactTables.{fact_entry, fact_in, delays_of, delays_in, facts_in}
use Rattle.office_store_tables.specs.Legible.{SaysOnce, AreReported, AreNamed}
use Rattle.office_store_tables.specs.SetupText.{setup_text}

-- the run order in a message
abbrev pub order_of : Option Message → Option RunOrder
order_of None = None
order_of (Some message) = order_in_body message.body

-- Run orders 1 to a number are kept, and each kept text of the release team up to their cover is a message. Each has
-- its own sender and number.
pub record AreMessages (setup : Lists) (kept : Kept) (finished : ℕ) : Type 0 where
  pub orders : (k : ℕ) → 1 ≤ k → k ≤ finished → IsSome (order_of (message_at setup kept (runs setup) k))
  pub release : (n : ℕ) → 1 ≤ n → n ≤ cover setup kept finished (release_place setup) → IsSome (get kept (release_place setup, n)) → IsSome (message_at setup kept (release_place setup) n)

-- the table of the last delays has only this number, or no row
abbrev pub KeepsDelays : Option ℕ → List Row → Type 0
KeepsDelays None rows = rows ≡ []
KeepsDelays (Some number) rows = (row : Row) × (rows ≡ row ∷ []) × ((release : ℕ) → delays_in release row ≡ Some (fact_entry (delays_of release number)))

-- The office says what it said, with schema number 2 and this setup's text. Mail, reports, testing and the table of
-- facts are unchanged. The last delays are those set by the release team up to the cover of the finished runs' orders.
pub record Migrates (setup : Lists) (old new : Trees) : Type 0 where
  pub said : Said
  pub said_is : said_in (old 0) ≡ Some said
  pub fits : said.finished ≤ 4_294_967_295
  pub row : Row
  pub one : new 0 ≡ row ∷ []
  pub row_says : office_in row ≡ Some (1, record { schema = 2; setup = setup_text setup; finished = said.finished })
  pub mail : new 1 ≡ old 1
  pub runs : new 3 ≡ old 3
  pub sources : new 4 ≡ old 4
  pub rows : new 6 ≡ old 6
  pub facts : new 8 ≡ old 8
  pub messages : AreMessages setup (kept_rows (old 1)) said.finished
  pub last : Option ℕ
  pub last_is : IsLastTold setup (kept_rows (old 1)) (cover setup (kept_rows (old 1)) said.finished (release_place setup)) last
  pub delays : KeepsDelays last (new 10)

-- the content of the tables of schema 1
abbrev pub content_before : Lists → Trees → Content
content_before setup db = record (content_in setup db) { facts = facts_in (release_place setup) (db 8) [] }

-- the tables of schema 1 are what an office of that schema wrote
pub record IsLegibleBefore (setup : Lists) (db : Trees) : Type 0 where
  pub office : SaysOnce (db 0)
  pub mail : IsWhole (kept_rows (db 1)) (db 1)
  pub runs : AreReported (db 3) office.said.finished
  pub testing : AreNamed setup db
  pub facts : (row : Row) → Has (db 8) row → IsSome (fact_in row)
