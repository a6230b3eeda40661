-- What is told of the rows that a change breaks. Its form is decided by this office.
use Rattle.std.specs.Prelude.{ℕ, not, List, [], ◌∷◌, ◌++◌, codes, decimal, drop, filter, length, take, Option, Some, None}
use Rattle.std.specs.List.{flat_map, range_with_len}
use Rattle.testing_rules_items.specs.Words.{Text, arch_name}
use Rattle.testing_rules_items.specs.declared.item.HintItem.{HintItem}
use Rattle.testing_rules_model.specs.declared.facts.UploadIn.{UploadIn}
use Rattle.testing_rules_model.specs.declared.suite.RowIn.{RowIn}
use Rattle.testing_rules_model.specs.Moves.{is_same_key, source_in}
use Rattle.testing_rules_model.specs.Suite.{Suite}
use Rattle.testing_rules_refusals.specs.Lines.{package_text}
use Rattle.testing_rules_refusals.specs.Texts.{Known, offers_text}
use Rattle.office_core_breaks.specs.declared.asked.Change.{Change}
use Rattle.office_core_breaks.specs.declared.asked.Change.TheVariants.{Source, Group, Removal}
use Rattle.office_core_breaks.specs.Breaks.{broken_on, is_offered, is_there}

-- the line of a broken row
abbrev pub broken_line : Text → RowIn → Text
broken_line arch r = codes "uninstallable " ++ arch ++ 32 ∷ package_text r ++ 10 ∷ []

-- a broken row, and how it stands with the row of unstable that has its architecture and name
unfoldable pub row_text : Known → List RowIn → ℕ → RowIn → Text
row_text k unstable arch r = broken_line (arch_name k.archs arch) r ++ offers_text k (filter (is_same_key r) unstable)

-- how many rows aren't told, if there are any
abbrev pub untold_text : List RowIn → Text
untold_text [] = []
untold_text (r ∷ rows) = codes "and " ++ decimal (length (r ∷ rows)) ++ codes " more" ++ 10 ∷ []

-- the first hundred rows, and how many more there are
abbrev pub first_text : Known → List RowIn → ℕ → List RowIn → Text
first_text k unstable arch rows = flat_map (row_text k unstable arch) (take 100 rows) ++ untold_text (drop 100 rows)

-- how many rows break on an architecture
abbrev pub count_line : Text → ℕ → Text
count_line arch count = codes "broken " ++ arch ++ 32 ∷ decimal count ++ 10 ∷ []

-- the rows that a change breaks on an architecture
abbrev pub broken_text : Known → List RowIn → List RowIn → List RowIn → ℕ → Text
broken_text k unstable old new arch =
    let rows = broken_on arch k.coming old new in count_line (arch_name k.archs arch) (length rows) ++ first_text k unstable arch rows

-- those of all architectures, in listed order
abbrev pub all_text : Known → List RowIn → List RowIn → List RowIn → Text
all_text k unstable old new = flat_map (broken_text k unstable old new) (range_with_len 0 (length k.archs))

-- the line of an item that names another version than there is
abbrev pub item_line : HintItem → Text
item_line i = codes "unknown " ++ i.name ++ 47 ∷ i.version ++ 10 ∷ []

-- the line of a source that unstable doesn't have
abbrev pub source_line : Text → Option UploadIn → Text
source_line name None = codes "unknown " ++ name ++ 10 ∷ []
source_line name (Some u) = []

-- the lines of what can't change: sources that unstable doesn't have, at the items' versions if these are stated, or
-- that testing doesn't have
abbrev pub unknown_text : List UploadIn → Suite → Change → Text
unknown_text sources t (Source name) = source_line name (source_in sources name)
unknown_text sources t (Group items) = flat_map item_line (filter (λ i. not (is_offered sources i)) items)
unknown_text sources t (Removal items) = flat_map item_line (filter (λ i. not (is_there t i)) items)

-- the first line: the run, and what was asked
abbrev pub head_line : ℕ → Text → Text
head_line run words = codes "breaks " ++ decimal run ++ 32 ∷ words ++ 10 ∷ []
