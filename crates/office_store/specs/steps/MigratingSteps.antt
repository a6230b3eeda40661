-- How a store of schema 1 is read and rewritten.
use Rattle.std.specs.Prelude.{◌≡◌, ◌≤◌, ◌+◌, ◌==◌, ℕ, List, [], ◌∷◌, max, nat_le, if◌then◌else◌, is_some, slice_index, Option, Some, None, option_and_then}
use Rattle.std.specs.Borrow.{MutBor}
use Rattle.sqlite_trees.specs.declared.store.Store.{Ghosts}
use Rattle.sqlite.specs.Held.{Held, state}
use Rattle.sqlite.specs.Order.{Row, column}
use Rattle.sqlite.specs.State.{State}
use Rattle.sqlite.specs.Tree.{Trees}
use Rattle.testing_rules_model.specs.Covered.{CoveredItem, delays_of}
use Rattle.testing_rules_model.specs.declared.facts.DelaysIn.{DelaysIn}
use Rattle.office_mail.specs.declared.message.Body.{Body}
use Rattle.office_mail.specs.declared.message.Body.TheVariants.{Item, Run}
use Rattle.office_mail.specs.declared.message.Message.{Message}
use Rattle.office_mail.specs.declared.message.RunOrder.{RunOrder}
use Rattle.office_mail.specs.Lists.{Lists}
use Rattle.office_mail.specs.Read.{read}
use Rattle.office_mail.specs.Runs.{runs}
use Rattle.office_store_keeper.specs.declared.values.Letter.{Letter}
use Rattle.office_store_tables.specs.declared.said.Said.{Said}
use Rattle.office_store_tables.specs.Tables.{IsTrusted, number_in, office_in, said_in}
use Rattle.office_store_tables.specs.TableContent.{own_by, release_place}
use Rattle.office_store_tables.specs.TableSteps.{SaysAlone, rows_in, WentOn}
use Rattle.office_store_tables.specs.FactSteps.{AddsDelays}
use Rattle.office_store.specs.Opening.{text_before, lists_by}
use Rattle.office_store.specs.Migrating.{order_of, KeepsDelays}

-- if the connection is trusted after the step, this holds of the tables before it
abbrev pub HeldBefore : {S : Type 0} → Ghosts S → MutBor (Held S) → MutBor (Held S) → (Trees → Type 0) → Type 0
HeldBefore store old new said = IsTrusted (state store new.now) → said (state store old.now).now.trees

-- ---- the office's row

abbrev pub count_by : Option ℕ → ℕ
count_by None = 0
count_by (Some n) = if nat_le n 4_294_967_295 then n else 0

-- the count of runs in the only shown row of the office, or 0 if it isn't a number of 32 bits
abbrev pub count_shown : List Row → ℕ
count_shown [] = 0
count_shown (row ∷ []) = count_by (number_in (column row 3))
count_shown (a ∷ b ∷ rows) = 0

-- the office's only row has schema 1, this setup and this number of finished runs
pub record IsJudged (setup : Lists) (rows : List Row) (finished : ℕ) : Type 0 where
  pub setup_is : lists_by (text_before rows) ≡ Some setup
  pub said : Said
  pub said_is : said_in rows ≡ Some said
  pub alone : SaysAlone rows
  pub finished_is : finished ≡ said.finished
  pub fits : finished ≤ 4_294_967_295

-- ---- the letters of a sender

-- the message in a letter
abbrev pub own_letter : Lists → ℕ → Letter → Option Message
own_letter setup sender letter = own_by sender letter.number (read setup letter.text)

abbrev pub stated_by : ℕ → Option RunOrder → Option ℕ
stated_by sender None = None
stated_by sender (Some order) = Some (slice_index order.covers sender)

-- The number that the letter after this many orders states for the release team; nothing if its number differs or it
-- isn't an order.
unfoldable pub next_stated : Lists → ℕ → Letter → Option ℕ
next_stated setup count letter = if letter.number == count + 1 then stated_by (release_place setup) (order_of (own_letter setup (runs setup) letter)) else None

-- The greatest number that these letters, and this many orders before them, state for the release team. There is none
-- if one of these numbers is missing, or a letter isn't an order.
unfoldable pub cover_on : Lists → ℕ → ℕ → ℕ → List Letter → Option ℕ
cover_on setup finished count cover [] = if count == finished then Some cover else None
cover_on setup finished count cover (letter ∷ letters) = option_and_then (λ stated. cover_on setup finished (count + 1) (max cover stated) letters) (next_stated setup count letter)

-- the delays in the body of a message with this sender and number
abbrev pub delays_in_body : ℕ → ℕ → Body → Option DelaysIn
delays_in_body sender number (Item item) = let m : CoveredItem = record { sender = sender; number = number; item = item } in delays_of m
delays_in_body sender number (Run order) = None

-- the delays set by a message, if there is one
abbrev pub delays_told : ℕ → ℕ → Option Message → Option DelaysIn
delays_told sender number None = None
delays_told sender number (Some message) = delays_in_body sender number message.body

-- what is known about the last delays after reading a message of the release team
abbrev pub told_by : ℕ → ℕ → Option ℕ → Option Message → Option (Option ℕ)
told_by sender number last None = None
told_by sender number last (Some message) = Some (if is_some (delays_told sender number (Some message)) then Some number else last)

unfoldable pub next_told : Lists → Option ℕ → Letter → Option (Option ℕ)
next_told setup last letter = told_by (release_place setup) letter.number last (own_letter setup (release_place setup) letter)

-- The number of the last of these letters that sets delays, or the one before them. There is none if a letter isn't a
-- message of the release team with its number.
unfoldable pub told_on : Lists → Option ℕ → List Letter → Option (Option ℕ)
told_on setup last [] = Some last
told_on setup last (letter ∷ letters) = option_and_then (λ now. told_on setup now letters) (next_told setup last letter)

-- ---- the written tables

-- the number of the last delays, if there is one, was added, and the other tables are unchanged
abbrev pub PutsLast : Trees → Trees → Option ℕ → Type 0
PutsLast db next None = rows_in next ≡ rows_in db
PutsLast db next (Some number) = AddsDelays db next number

-- the table of the last delays was made, without rows, in an open transaction
pub record Widens (old new : State) : Type 0 where
  pub on : WentOn old new
  pub rows : rows_in new.now.trees ≡ record (rows_in old.now.trees) { delays = [] }

-- the number of the last delays, if there is one, was added, the office says only this, and the other tables are
-- unchanged
pub record WritesAnew (db next : Trees) (last : Option ℕ) (said : Said) : Type 0 where
  pub office : SaysAlone (db 0) → (row : Row) × (next 0 ≡ row ∷ []) × (office_in row ≡ Some (1, said))
  pub delays : db 10 ≡ [] → KeepsDelays last (next 10)
  pub rest : rows_in next ≡ record (rows_in db) { office = next 0; delays = next 10 }
