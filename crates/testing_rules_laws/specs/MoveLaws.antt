-- Laws of moves (Debian Developer's Reference 5.13): which changes are allowed, and when single moves end.
use Rattle.std.specs.Prelude.{◌≡◌, ◌<◌, ◌↔◌, ◌⊎◌, ℕ, true, false, List, length, None, Contains}
use Rattle.std.specs.List.{AllByRecursion}
use Rattle.std.specs.Option.{is_none}
use Rattle.testing_rules_model.specs.declared.facts.UploadIn.{UploadIn}
use Rattle.testing_rules_model.specs.declared.suite.RowIn.{RowIn}
use Rattle.testing_rules_model.specs.declared.excuse.Excuse.{Excuse}
use Rattle.testing_rules_model.specs.declared.update.Decision.TheVariants.{Accept}
use Rattle.testing_rules_model.specs.Suite.{Suite}
use Rattle.testing_rules_items.specs.Words.{Text}
use Rattle.testing_rules_model.specs.Moves.{RowAnswer, is_row_of, is_watched_on, was_installable, judged_on, offender_of}
use Rattle.testing_rules_model.specs.Updates.{Outcome, offender_alone, single_moves}

-- the row is installable if it is watched and came with the group or was installable before
abbrev pub IsUnbroken : ℕ → List Text → List RowAnswer → RowAnswer → Type 0
IsUnbroken arch group before j =
    is_watched_on arch j.row ≡ true → (is_row_of group j.row ≡ true) ⊎ (was_installable before j.row ≡ true) → j.is_installable ≡ true

-- a change has no offender exactly if on each architecture every watched row that came, or was installable before, is
-- installable
abbrev pub AllowedMeans : Type 0
AllowedMeans =
    (archs : List Text) (old new : List RowIn) (group : List Text)
    → (offender_of archs old new group ≡ None)
    ↔ ((arch : ℕ) → arch < length archs → AllByRecursion (IsUnbroken arch group (judged_on arch old)) (judged_on arch new))

-- the candidate has moved, or moving it alone isn't allowed
abbrev pub HasMovedOrMayNot : List Text → List UploadIn → List RowIn → Outcome → Excuse → Type 0
HasMovedOrMayNot archs sources rows o e =
    Contains o.decisions (Accept e.source e.unstable) ⊎ (is_none (offender_alone archs sources rows o.suite e) ≡ false)

-- single moves continue until none is allowed: in the end each candidate has moved, or moving it alone isn't allowed
abbrev pub NoneIsLeft : Type 0
NoneIsLeft =
    (archs : List Text) (sources : List UploadIn) (rows : List RowIn) (es : List Excuse) (t : Suite)
    → AllByRecursion (HasMovedOrMayNot archs sources rows (single_moves archs sources rows (length es) es t)) es
