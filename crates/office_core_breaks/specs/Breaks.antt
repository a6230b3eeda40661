-- Which rows of testing a change breaks: all of them, where a refusal names the first (Debian Developer's Reference
-- 5.13.2). That all are told is decided by this office.
use Rattle.std.specs.Prelude.{ℕ, Bool, false, ◌&&◌, not, List, [], map, filter}
use Rattle.std.specs.Option.{option_map_or}
use Rattle.testing_rules_items.specs.Words.{Text, is_same_version, only_if}
use Rattle.testing_rules_items.specs.declared.item.HintItem.{HintItem}
use Rattle.testing_rules_model.specs.declared.facts.UploadIn.{UploadIn}
use Rattle.testing_rules_model.specs.declared.suite.RowIn.{RowIn}
use Rattle.testing_rules_model.specs.Moves.{fails_on, is_row_of, judged_on, move_group, source_in}
use Rattle.testing_rules_model.specs.Suite.{Suite}
use Rattle.testing_rules_model.specs.Updates.{is_in_testing}
use Rattle.office_core_breaks.specs.declared.asked.Change.{Change}
use Rattle.office_core_breaks.specs.declared.asked.Change.TheVariants.{Source, Group, Removal}

-- The rows that a change from the old rows to the new ones breaks on an architecture, where a group came in: they are
-- watched there and not installable after it, though they came in with the group or were installable before.
abbrev pub broken_on : ℕ → List Text → List RowIn → List RowIn → List RowIn
broken_on arch group old new = map (λ j. j.row) (filter (fails_on arch group (judged_on arch old)) (judged_on arch new))

-- unstable has the source at the item's version
abbrev pub is_offered : List UploadIn → HintItem → Bool
is_offered sources i = option_map_or (λ u. is_same_version u.version i.version) (source_in sources i.name) false

-- testing has the source at the item's version
abbrev pub is_there : Suite → HintItem → Bool
is_there t i = is_in_testing t i.name i.version

-- the item's source would move: unstable has it at that version, and testing doesn't
abbrev pub moves : List UploadIn → Suite → HintItem → Bool
moves sources t i = is_offered sources i && not (is_there t i)

-- the sources of those of the items that pass
abbrev pub names_where : (HintItem → Bool) → List HintItem → List Text
names_where passes items = map (λ i. i.name) (filter passes items)

-- the source, unless testing has it at this version
abbrev pub unless_there : Suite → UploadIn → List Text
unless_there t u = only_if (not (is_in_testing t u.source u.version)) u.source

-- the sources that come in by a change
abbrev pub coming : List UploadIn → Suite → Change → List Text
coming sources t (Source name) = option_map_or (unless_there t) (source_in sources name) []
coming sources t (Group items) = names_where (moves sources t) items
coming sources t (Removal items) = []

-- the sources that leave by it
abbrev pub leaving : Suite → Change → List Text
leaving t (Source name) = []
leaving t (Group items) = []
leaving t (Removal items) = names_where (is_there t) items

-- testing's rows after it
abbrev pub rows_after : List UploadIn → List RowIn → Suite → Change → List RowIn
rows_after sources unstable t change = filter (λ r. not (is_row_of (leaving t change) r)) (move_group sources unstable (coming sources t change) t).rows
