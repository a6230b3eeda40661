-- Testing's rows and sources after a move or a removal.
use Rattle.std.specs.Prelude.{ℕ, List, not, filter, fold}
use Rattle.std.specs.List.{slice_get, filter_map, flat_map}
use Rattle.std.specs.Str.{bytes_eq}
use Rattle.testing_rules_model.specs.declared.facts.UploadIn.{UploadIn}
use Rattle.testing_rules_model.specs.declared.suite.SourceIn.{SourceIn}
use Rattle.testing_rules_model.specs.declared.suite.RowIn.{RowIn}
use Rattle.testing_rules_model.specs.Moves.{is_row_of, put_row, put_source, as_source, group_sources}
use Rattle.testing_rules_model.specs.Unstable.{is_current}
use Rattle.testing_rules_items.specs.Words.{Text}

-- rows with others put in, each at its key
abbrev pub with_rows : List RowIn → List RowIn → List RowIn
with_rows others rows = fold (λ xs r. put_row r xs) rows others

-- the rows of a pool at some places
abbrev pub rows_at : List RowIn → List ℕ → List RowIn
rows_at pool places = filter_map (slice_get pool) places

-- testing's rows after the move of a group: all rows of its sources leave, and their current rows in unstable come
abbrev pub moved_rows : List UploadIn → List RowIn → List Text → List RowIn → List RowIn
moved_rows sources unstable group rows = with_rows (flat_map (λ u. filter (is_current u) unstable) (group_sources sources group)) (filter (λ r. not (is_row_of group r)) rows)

-- testing's rows after the removal of a source
abbrev pub rows_without : Text → List RowIn → List RowIn
rows_without name rows = filter (λ r. not (bytes_eq r.binary.source name)) rows

-- testing's sources after the move of a group, whose sources get their unstable versions
abbrev pub sources_after : List UploadIn → List Text → List SourceIn → List SourceIn
sources_after sources group old = fold (λ xs u. put_source (as_source u) xs) old (group_sources sources group)
