-- What facts take from mail: a message, the messages that kept rows name, and uploads once more.
use Rattle.std.specs.Prelude.{◌≡◌, ◌≤◌, ◌<◌, ◌+◌, ◌⊎◌, ℕ, List, ◌++◌, Option, Some, None, map, option_to_list, slice_index_or, Contains}
use Rattle.std.specs.FinMap.{get}
use Rattle.testing_rules_items.specs.Words.{Text}
use Rattle.testing_rules_items.specs.declared.item.Item.{Item}
use Rattle.testing_rules_items.specs.declared.item.Item.TheVariants.{Nothing}
use Rattle.testing_rules_model.specs.declared.fact_row.FactRow.{FactRow}
use Rattle.testing_rules_model.specs.declared.facts.UploadIn.{UploadIn}
use Rattle.testing_rules_model.specs.FactLists.{FactLists}
use Rattle.testing_rules_model.specs.Covered.{Covered, CoveredItem, upload_of, uploads_in}
use Rattle.testing_rules_model.specs.FactDifference.{IsChangedFrom}
use Rattle.testing_rules_model.specs.SameMessages.{HasOneOfEach}
use Rattle.testing_rules_model.specs.StandsFor.{StandsFor}
use Rattle.testing_rules_model.specs.Suite.{Suite}
use Rattle.testing_rules_model.specs.Tells.{Tells}
use Rattle.testing_rules_facts.specs.Restored.{Given, said}
use Rattle.testing_rules_facts.specs.Uploads.{AreByMessage}
use Rattle.testing_rules_laws.specs.steps.Restored.{restored_all}
use Rattle.office_mail.specs.Kept.{Kept}
use Rattle.office_store_keeper.specs.declared.values.Letter.{Letter}

-- these letters are kept mail of the sender
abbrev pub AreLettersOf : Kept → ℕ → List Letter → Type 0
AreLettersOf kept sender letters = (x : Letter) → Contains letters x → get kept (sender, x.number) ≡ Some x.text

-- the item is that of a message among these, under this sender and number, or it says nothing
abbrev pub IsItemAt : Covered → ℕ → ℕ → Item → Type 0
IsItemAt s sender number item = (item ≡ Nothing) ⊎ Contains s (said sender number item)

-- what is said under this sender and number is this item, or nothing is
abbrev pub IsSaidItem : Option CoveredItem → ℕ → ℕ → Item → Type 0
IsSaidItem says sender number item = (says ≡ Some (said sender number item)) ⊎ ((says ≡ None) × (item ≡ Nothing))

-- a row is of the same sender as another, and its number is less than `span` above the other's
pub record IsNear (span : ℕ) (first row : FactRow) : Type 0 where
  pub sender : row.sender ≡ first.sender
  pub low : first.number ≤ row.number
  pub high : row.number < first.number + span

-- the rows from one place up to another are near this one
abbrev pub AreNear : ℕ → FactRow → List FactRow → ℕ → ℕ → Type 0
AreNear span first rows start end = (k : ℕ) (d : FactRow) → start ≤ k → k < end → IsNear span first (slice_index_or rows k d)

-- The facts took one message. If it says something, they stand for that as well, and hold its upload.
pub record Took (says : Option CoveredItem) (old new : FactLists) : Type 0 where
  pub stand : (s : Covered) (t : Suite) → StandsFor old s t → StandsFor new (option_to_list says ++ s) t
  pub tells : (s : Covered) → Tells old s → Tells new (option_to_list says ++ s)
  pub moved : (count : FactRow → ℕ) → IsChangedFrom count old → IsChangedFrom count new
  pub by_message : AreByMessage old.uploads → AreByMessage new.uploads
  pub kept : (u : UploadIn) → Contains old.uploads u → Contains new.uploads u
  pub there : (m : CoveredItem) (u : UploadIn) → says ≡ Some m → upload_of m ≡ Some u → Contains new.uploads u

-- These rows were put back into the facts, each with the item of its message or one that says nothing; so messages that
-- said the facts still say them.
pub record HavePutBack (s : Covered) (rows : List FactRow) (first now : FactLists) : Type 0 where
  pub given : List Given
  pub same : map (λ x. x.0) given ≡ rows
  pub become : now ≡ restored_all given first
  pub tells : Tells first s → Tells now s

-- The facts took the uploads of these names among some messages again. They represent what they did before, if that has
-- one message of each number, these among them; and these uploads are in the facts.
pub record TookAgain (names : List Text) (again : Covered) (first now : FactLists) : Type 0 where
  pub stand : (s : Covered) (t : Suite) → HasOneOfEach s → ((m : CoveredItem) → Contains again m → Contains s m) → StandsFor first s t → StandsFor now s t
  pub there : (u : UploadIn) → Contains (uploads_in again) u → Contains names u.source → Contains now.uploads u
