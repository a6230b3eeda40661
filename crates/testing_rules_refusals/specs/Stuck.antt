-- What no group frees: blocks of lines. Each shows that its source can't move in any group while those of the later
-- blocks don't (Debian Developer's Reference 5.13.2 and 5.13.2.3; this office decides to report it).
use Rattle.std.specs.Prelude.{◌≡◌, ℕ, ◌<◌, ◌⊎◌, ⊤, Bool, true, false, ◌&&◌, ◌||◌, not, List, [], ◌∷◌, ◌++◌, codes, map, filter, length, Some, Contains}
use Rattle.std.specs.List.{slice_get, list_any}
use Rattle.std.specs.Option.{option_map_or}
use Rattle.std.specs.Str.{bytes_eq}
use Rattle.testing_rules_items.specs.Words.{Text}
use Rattle.testing_rules_model.specs.declared.excuse.Excuse.{Excuse}
use Rattle.testing_rules_model.specs.declared.facts.HintIn.{HintIn}
use Rattle.testing_rules_model.specs.declared.facts.UploadIn.{UploadIn}
use Rattle.testing_rules_model.specs.declared.suite.RowIn.{RowIn}
use Rattle.testing_rules_model.specs.declared.update.Offender.{Offender}
use Rattle.testing_rules_model.specs.Excuses.{testing_version}
use Rattle.testing_rules_model.specs.InOrder.{AreByKey}
use Rattle.testing_rules_model.specs.Moves.{rows_on, judged_on, is_row_of, is_same_key, is_watched_on, was_installable}
use Rattle.testing_rules_model.specs.Suite.{Suite}
use Rattle.testing_rules_model.specs.Updates.{is_remaining, in_turn, move_easy, move_singles}
use Rattle.testing_rules_excuses.specs.States.{excuse_of}
use Rattle.testing_rules_reports.specs.Reports.{offender_text}
use Rattle.testing_rules_refusals.specs.Needs.{packages}
use Rattle.testing_rules_refusals.specs.Texts.{comes_with, refusal_text}
use Rattle.testing_rules_refusals.specs.Told.{lines_of}
use Rattle.testing_install_why.specs.Certificate.{IsShownBy, everywhere}
use Rattle.testing_install_why.specs.declared.Step.{Step}

-- the excuse's source is a candidate that hasn't moved and isn't dead
abbrev pub is_living : Suite → List Text → Excuse → Bool
is_living t dead e = is_remaining t e && not (list_any (bytes_eq e.source) dead)

-- the candidates that haven't moved, except the dead ones
abbrev pub living : List Excuse → Suite → List Text → List Text
living excuses t dead = map (λ e. e.source) (filter (is_living t dead) excuses)

-- the rows of unstable that come with the sources
abbrev pub coming_rows : List UploadIn → List RowIn → List Text → List RowIn
coming_rows sources unstable group = filter (comes_with sources group) unstable

-- the row leaves once the source of this name, with these rows, has moved: it is the source's, or one of them has its key
abbrev pub gives_way : List RowIn → Text → RowIn → Bool
gives_way own name r = bytes_eq r.binary.source name || list_any (is_same_key r) own

-- the rows that may be present once the source has moved, whichever of the living move
abbrev pub may_stand : List UploadIn → List RowIn → List Text → Text → Suite → List RowIn
may_stand sources unstable live name t =
    filter (λ r. not (gives_way (coming_rows sources unstable (name ∷ [])) name r)) t.rows ++ coming_rows sources unstable live

-- testing's row stays whichever of the living move: it was installable, none of them is its source, and none has a row
-- with its key
pub record Stays (sources : List UploadIn) (unstable : List RowIn) (live : List Text) (t : Suite) (arch : ℕ) (r : RowIn) : Type 0 where
  pub there : Contains t.rows r
  pub worked : was_installable (judged_on arch t.rows) r ≡ true
  pub own : is_row_of live r ≡ false
  pub key : list_any (is_same_key r) (coming_rows sources unstable live) ≡ false

-- a source, the row that its move would break, and the steps that prove it
pub record Block : Type 0 where
  pub name : Text
  pub offender : Offender
  pub steps : List Step

-- The source of the block can't move while none of the dead does: it is a candidate, the offender's row is watched and
-- comes with it or stays, and the steps show that it isn't installable among the rows that may be present. Testing has
-- one row of a key, so that a row that comes takes the place of the one that was there.
pub record IsStuckBy (archs : List Text) (sources : List UploadIn) (unstable : List RowIn) (excuses : List Excuse) (t : Suite) (dead : List Text) (b : Block) : Type 0 where
  pub ordered : AreByKey t.rows
  pub lives : list_any (bytes_eq b.name) (living excuses t dead) ≡ true
  pub listed : b.offender.arch < length archs
  pub place : ℕ
  pub row : RowIn
  pub stands : slice_get (rows_on b.offender.arch (may_stand sources unstable (living excuses t dead) b.name t)) place ≡ Some row
  pub named : row.binary.name ≡ b.offender.«package»
  pub watched : is_watched_on b.offender.arch row ≡ true
  pub due : Contains (coming_rows sources unstable (b.name ∷ [])) row ⊎ Stays sources unstable (living excuses t dead) t b.offender.arch row
  pub shown : IsShownBy (packages (rows_on b.offender.arch (may_stand sources unstable (living excuses t dead) b.name t))) everywhere place b.steps

-- the sources of the blocks
abbrev pub names_of : List Block → List Text
names_of stuck = map (λ b. b.name) stuck

-- each block is true while none of the later blocks' sources moves
abbrev pub AreStuck : List Text → List UploadIn → List RowIn → List Excuse → Suite → List Block → Type 0
AreStuck archs sources unstable excuses t [] = ⊤
AreStuck archs sources unstable excuses t (b ∷ behind) = IsStuckBy archs sources unstable excuses t (names_of behind) b × AreStuck archs sources unstable excuses t behind

-- the first line of a block
abbrev pub stuck_line : List Text → List Excuse → Block → Text
stuck_line archs excuses b =
    codes "stuck " ++ b.name ++ 32 ∷ option_map_or (λ e. e.unstable) (excuse_of excuses b.name) (codes "-") ++ offender_text archs b.offender ++ 10 ∷ []

-- the lines of a block while these are dead: its rows are those that may be present, compared with testing's and
-- unstable's
abbrev pub block_text : List Text → List UploadIn → List RowIn → List Excuse → Suite → List Text → Block → Text
block_text archs sources unstable excuses t dead b =
    let live = living excuses t dead in
    let arch = b.offender.arch in
    stuck_line archs excuses b
    ++ refusal_text t (record { archs = archs; sources = sources; excuses = excuses; coming = live; stuck = dead })
    (lines_of (rows_on arch (may_stand sources unstable live b.name t)) b.steps (rows_on arch t.rows) (rows_on arch unstable))

-- the lines of all blocks
abbrev pub stuck_text : List Text → List UploadIn → List RowIn → List Excuse → Suite → List Block → Text
stuck_text archs sources unstable excuses t [] = []
stuck_text archs sources unstable excuses t (b ∷ behind) =
    block_text archs sources unstable excuses t (names_of behind) b ++ stuck_text archs sources unstable excuses t behind

-- this text shows that no group frees the source: its blocks begin with the source's
pub record IsStuckText (archs : List Text) (sources : List UploadIn) (unstable : List RowIn) (excuses : List Excuse) (t : Suite) (source text : Text) : Type 0 where
  pub own : Block
  pub behind : List Block
  pub named : own.name ≡ source
  pub are : AreStuck archs sources unstable excuses t (own ∷ behind)
  pub told : text ≡ stuck_text archs sources unstable excuses t (own ∷ behind)

-- the source of each block stays at its version, whatever `easy` hints come, and whatever moves alone after them
abbrev pub NoGroupFrees : Type 0
NoGroupFrees =
    (archs : List Text) (sources : List UploadIn) (unstable : List RowIn) (excuses : List Excuse) (t : Suite) (stuck : List Block)
    → AreByKey unstable → AreStuck archs sources unstable excuses t stuck
    → (hints : List HintIn) (b : Block) → Contains stuck b
    → testing_version (move_singles archs sources unstable excuses (in_turn (move_easy archs sources unstable excuses) hints t).suite).suite b.name ≡ testing_version t b.name
