-- What is found out about a block, and the text of the blocks so far.
use Rattle.std.specs.Prelude.{◌≡◌, ℕ, ◌<◌, ◌⊎◌, Bool, true, false, ◌&&◌, not, List, [], ◌∷◌, length, Some, Contains}
use Rattle.std.specs.Borrow.{Bor}
use Rattle.std.specs.List.{slice_get, list_any}
use Rattle.std.specs.Str.{bytes_eq}
use Rattle.testing_rules_items.specs.Words.{Text}
use Rattle.testing_rules_model.specs.declared.excuse.Excuse.{Excuse}
use Rattle.testing_rules_model.specs.declared.facts.UploadIn.{UploadIn}
use Rattle.testing_rules_model.specs.declared.suite.RowIn.{RowIn}
use Rattle.testing_rules_model.specs.declared.update.Offender.{Offender}
use Rattle.testing_rules_model.specs.InOrder.{AreByKey}
use Rattle.testing_rules_model.specs.Moves.{RowAnswer, rows_on, is_row_of, is_same_key, is_watched_on, was_installable}
use Rattle.testing_rules_model.specs.Suite.{Suite}
use Rattle.testing_rules_model.specs.Updates.{is_remaining}
use Rattle.testing_rules_excuses.specs.States.{is_current_in}
use Rattle.testing_rules_reports.specs.steps.LentLines.{has_line}
use Rattle.testing_rules_refusals.specs.Needs.{packages}
use Rattle.testing_rules_refusals.specs.Stuck.{may_stand, coming_rows, Stays, Block, IsStuckBy, AreStuck, names_of, block_text, stuck_text}
use Rattle.testing_install_why.specs.Certificate.{IsShownBy, everywhere}
use Rattle.testing_install_why.specs.declared.Step.{Step}

-- the excuse's source is a candidate that hasn't moved, and its name isn't in the set
abbrev pub lives_beside : Suite → List (Bor (List ℕ)) → Excuse → Bool
lives_beside t dead e = is_remaining t e && not (has_line dead e.source)

-- the row is current, and its source's name is in the set
abbrev pub comes_by : List UploadIn → List (Bor (List ℕ)) → RowIn → Bool
comes_by sources live r = has_line live r.binary.source && is_current_in sources r

-- the row at the place is watched on the architecture and has the package's name
pub record IsWatchedAt (arch : ℕ) (package_name : Text) (rows : List RowIn) (place : ℕ) (row : RowIn) : Type 0 where
  pub stands : slice_get rows place ≡ Some row
  pub named : row.binary.name ≡ package_name
  pub watched : is_watched_on arch row ≡ true

-- it belongs to the source
pub record IsOwnAt (arch : ℕ) (package_name : Text) (rows : List RowIn) (name : Text) (place : ℕ) : Type 0 where
  pub row : RowIn
  pub is : IsWatchedAt arch package_name rows place row
  pub own : bytes_eq row.binary.source name ≡ true

-- it was installable, none of these sources owns it, and none of these rows has its key
pub record IsStayingAt (arch : ℕ) (package_name : Text) (rows : List RowIn) (before : List RowAnswer) (live : List Text) (coming : List RowIn) (place : ℕ) : Type 0 where
  pub row : RowIn
  pub is : IsWatchedAt arch package_name rows place row
  pub worked : was_installable before row ≡ true
  pub own : is_row_of live row ≡ false
  pub key : list_any (is_same_key row) coming ≡ false

-- the row at the place is due; these rows on the architecture may be present once the source has moved
pub record IsDueAt (sources : List UploadIn) (unstable : List RowIn) (live : List Text) (t : Suite) (name : Text) (o : Offender) (rows : List RowIn) (place : ℕ) : Type 0 where
  pub row : RowIn
  pub is : IsWatchedAt o.arch o.«package» rows place row
  pub due : Contains (coming_rows sources unstable (name ∷ [])) row ⊎ Stays sources unstable live t o.arch row

-- this is found out about the block of the source while these live
pub record IsBlockOf (archs : List Text) (sources : List UploadIn) (unstable : List RowIn) (live : List Text) (t : Suite) (name : Text) (o : Offender) (rows : List RowIn) (steps : List Step) : Type 0 where
  pub ordered : AreByKey t.rows
  pub lives : list_any (bytes_eq name) live ≡ true
  pub listed : o.arch < length archs
  pub place : ℕ
  pub rows_are : rows ≡ rows_on o.arch (may_stand sources unstable live name t)
  pub at : IsDueAt sources unstable live t name o rows place
  pub shown : IsShownBy (packages rows) everywhere place steps

-- this is the text of a block of the source while these are dead
pub record IsToldBlock (archs : List Text) (sources : List UploadIn) (unstable : List RowIn) (excuses : List Excuse) (t : Suite) (dead : List Text) (name text : Text) : Type 0 where
  pub block : Block
  pub named : block.name ≡ name
  pub is : IsStuckBy archs sources unstable excuses t dead block
  pub told : text ≡ block_text archs sources unstable excuses t dead block

-- this is the text of the blocks of these sources
pub record AreToldBlocks (archs : List Text) (sources : List UploadIn) (unstable : List RowIn) (excuses : List Excuse) (t : Suite) (names : List Text) (text : Text) : Type 0 where
  pub list : List Block
  pub named : names_of list ≡ names
  pub are : AreStuck archs sources unstable excuses t list
  pub told : text ≡ stuck_text archs sources unstable excuses t list

-- this is the first of the names
abbrev pub begins_with : List Text → Text → Bool
begins_with [] name = false
begins_with (first ∷ others) name = bytes_eq first name
