-- What no run breaks: installable watched rows (Debian Developer's Reference 5.13.2 and 5.13.2.4). This office decides
-- which rows are watched.
use Rattle.std.specs.Prelude.{◌≡◌, ℕ, ◌<◌, true, List, [], length}
use Rattle.std.specs.List.{AllByRecursion}
use Rattle.testing_rules_model.specs.declared.suite.RowIn.{RowIn}
use Rattle.testing_rules_model.specs.declared.excuse.Excuse.{Excuse}
use Rattle.testing_rules_model.specs.declared.update.Decision.{Decision}
use Rattle.testing_rules_items.specs.Words.{Text}
use Rattle.testing_rules_model.specs.Suite.{Suite}
use Rattle.testing_rules_model.specs.Covered.{Covered}
use Rattle.testing_rules_model.specs.Moves.{is_watched_on, judged_on}
use Rattle.testing_rules_model.specs.Updates.{IsUpdate}

-- every row watched on an architecture is installable there
abbrev pub AllWatchedWork : List Text → List RowIn → Type 0
AllWatchedWork archs rows =
    (arch : ℕ) → arch < length archs → AllByRecursion (λ j. is_watched_on arch j.row ≡ true → j.is_installable ≡ true) (judged_on arch rows)

-- if every watched row is installable before a run, it is so after the run; without rows in testing this is true
abbrev pub WatchedRowsStay : Type 0
WatchedRowsStay =
    ((archs : List Text) (s : Covered) (excuses : List Excuse) (old new : Suite) (decisions : List Decision)
    → IsUpdate archs s excuses old decisions new → AllWatchedWork archs old.rows → AllWatchedWork archs new.rows)
    × ((archs : List Text) → AllWatchedWork archs [])
