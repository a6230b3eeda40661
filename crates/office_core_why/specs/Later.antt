-- Unstable's rows of a source in testing that came after its move. None of them moves by itself: testing changes by the
-- versions of sources. The form of their lines is decided by this office.
use Rattle.std.specs.Prelude.{List, [], ◌∷◌, ◌++◌, codes, if◌then◌else◌, filter, find, flat_map, Option, Some, None}
use Rattle.std.specs.Ordering.{is_eq}
use Rattle.testing_rules_items.specs.Words.{Text, arch_name, is_same_version}
use Rattle.testing_rules_model.specs.declared.facts.UploadIn.{UploadIn}
use Rattle.testing_rules_model.specs.declared.suite.RowIn.{RowIn}
use Rattle.testing_rules_model.specs.Moves.{row_cmp, row_key}
use Rattle.testing_rules_model.specs.Suite.{Suite}
use Rattle.testing_rules_model.specs.Unstable.{is_current}
use Rattle.testing_rules_excuses.specs.Lines.{by_message}
use Rattle.testing_rules_reports.specs.Reports.{words}

-- testing's row of the architecture and name of a row
abbrev pub row_there : Suite → RowIn → Option RowIn
row_there t r = find (λ x. is_eq (row_cmp (row_key x) (row_key r))) t.rows

-- the line on a row, which begins so
abbrev pub later_words : List Text → List Text → Text → RowIn → Text
later_words senders archs front r = words (front ∷ arch_name archs r.arch ∷ r.binary.name ∷ r.binary.version ∷ []) ++ by_message senders r.sender r.number

-- the line on a row, by testing's row of its architecture and name: none if testing has that version
abbrev pub later_line : List Text → List Text → RowIn → Option RowIn → Text
later_line senders archs r None = later_words senders archs (codes "not in testing") r
later_line senders archs r (Some old) = if is_same_version old.binary.version r.binary.version then [] else later_words senders archs (codes "rebuilt") r

-- the lines on a source's current rows that testing doesn't have, in unstable's order
abbrev pub later_lines : List Text → List Text → Suite → List RowIn → UploadIn → Text
later_lines senders archs t rows u = flat_map (λ r. later_line senders archs r (row_there t r)) (filter (is_current u) rows)
