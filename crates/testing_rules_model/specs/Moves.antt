-- Changes of testing, and which of them are allowed: no change may break a row that worked, or add one that doesn't
-- (Debian Developer's Reference 5.13.2 and 5.13.2.4).
use Rattle.std.specs.Prelude.{ℕ, Bool, ◌&&◌, ◌||◌, not, ◌==◌, List, [], ◌∷◌, map, filter, find, fold, length, Option, Some, None, option_map}
use Rattle.std.specs.declared.cmp.Ordering.{Ordering}
use Rattle.std.specs.List.{filter_map, flat_map, list_any, range_with_len}
use Rattle.std.specs.Ordering.{nat_cmp, on, then_cmp}
use Rattle.std.specs.Str.{bytes_eq}
use Rattle.testing_install.specs.Installable.{are_installable}
use Rattle.testing_rules_model.specs.declared.facts.UploadIn.{UploadIn}
use Rattle.testing_rules_model.specs.declared.suite.SourceIn.{SourceIn}
use Rattle.testing_rules_model.specs.declared.suite.RowIn.{RowIn}
use Rattle.testing_rules_model.specs.declared.update.Offender.{Offender}
use Rattle.testing_rules_model.specs.Suite.{Suite}
use Rattle.testing_rules_items.specs.Words.{Text, byte_cmp, least, put_by, all_place}
use Rattle.testing_rules_model.specs.Unstable.{is_current}

-- the order of rows: by architecture and then by name (this office decides it)
abbrev pub row_cmp : ℕ × Text → ℕ × Text → Ordering
row_cmp = then_cmp (on (λ p. p.0) nat_cmp) (on (λ p. p.1) byte_cmp)

-- the key of a row: its architecture and its name
abbrev pub row_key : RowIn → ℕ × Text
row_key r = (r.arch, r.binary.name)

-- testing's sources with one put in by name
abbrev pub put_source : SourceIn → List SourceIn → List SourceIn
put_source x xs = put_by (λ s. s.name) byte_cmp x xs

-- testing's rows with one put in by key
abbrev pub put_row : RowIn → List RowIn → List RowIn
put_row x xs = put_by row_key row_cmp x xs

-- the source in testing once its unstable version has moved
abbrev pub as_source : UploadIn → SourceIn
as_source u = record { name = u.source; version = u.version; sender = u.sender; number = u.number }

-- the row names a source of the group
abbrev pub is_row_of : List Text → RowIn → Bool
is_row_of group r = list_any (bytes_eq r.binary.source) group

-- the source of a name among unstable's sources
abbrev pub source_in : List UploadIn → Text → Option UploadIn
source_in sources name = find (λ u. bytes_eq u.source name) sources

-- the unstable sources that a group names, in its order
abbrev pub group_sources : List UploadIn → List Text → List UploadIn
group_sources sources group = filter_map (source_in sources) group

-- moves a group, with these unstable sources and rows: all rows of its sources leave, their current rows come, and the
-- sources get their unstable versions (Debian Developer's Reference 5.13.2; several sources at once, 5.13.2.3)
abbrev pub move_group : List UploadIn → List RowIn → List Text → Suite → Suite
move_group sources rows group t =
    let moving = group_sources sources group in
    record {
      sources = fold (λ xs u. put_source (as_source u) xs) t.sources moving;
      rows = fold (λ xs r. put_row r xs) (filter (λ r. not (is_row_of group r)) t.rows) (flat_map (λ u. filter (is_current u) rows) moving);
    }

-- removes a source: its rows and its version leave (britney2's `remove`)
abbrev pub remove_source : Text → Suite → Suite
remove_source name t = record {
  sources = filter (λ x. not (bytes_eq x.name name)) t.sources;
  rows = filter (λ r. not (bytes_eq r.binary.source name)) t.rows;
}

-- the given rows that are on the architecture: its own and those of `all` (Debian Policy 5.6.8)
abbrev pub rows_on : ℕ → List RowIn → List RowIn
rows_on arch rows = filter (λ r. (r.arch == arch) || (r.arch == all_place)) rows

-- a row on an architecture, and whether it is installable there
pub record RowAnswer : Type 0 where
  pub row : RowIn
  pub is_installable : Bool

-- rows with their answers, one for one
abbrev pub with_answers : List RowIn → List Bool → List RowAnswer
with_answers (r ∷ rs) (b ∷ bs) = record { row = r; is_installable = b } ∷ with_answers rs bs
with_answers _ _ = []

-- each row on the architecture with its answer (Debian Policy 7.1, 7.2 and 7.5)
abbrev pub judged_on : ℕ → List RowIn → List RowAnswer
judged_on arch rows =
    let there = rows_on arch rows in with_answers there (are_installable (map (λ r. r.binary) there))

-- the rows have the same architecture and name
abbrev pub is_same_key : RowIn → RowIn → Bool
is_same_key r q = (r.arch == q.arch) && bytes_eq r.binary.name q.binary.name

-- the row of this architecture and name was installable
abbrev pub was_installable : List RowAnswer → RowIn → Bool
was_installable before r = list_any (λ j. j.is_installable && is_same_key j.row r) before

-- each architecture watches its own rows, and the first one also the rows of `all` (this office decides it)
abbrev pub is_watched_on : ℕ → RowIn → Bool
is_watched_on arch r = (r.arch == arch) || ((r.arch == all_place) && (arch == 0))

-- the row fails: it isn't installable, and came with the group or was installable before (Debian Developer's Reference
-- 5.13.2)
abbrev pub fails_on : ℕ → List Text → List RowAnswer → RowAnswer → Bool
fails_on arch group before j =
    is_watched_on arch j.row && not j.is_installable && (is_row_of group j.row || was_installable before j.row)

-- the first name in byte order of a row that fails (this office decides it)
abbrev pub first_failing : ℕ → List Text → List RowAnswer → List RowAnswer → Option Text
first_failing arch group before after =
    least byte_cmp (map (λ j. j.row.binary.name) (filter (fails_on arch group before) after))

-- the offender on one architecture, by package name
abbrev pub offender_on : List RowIn → List RowIn → List Text → ℕ → Option Offender
offender_on old new group arch =
    option_map (λ n. record { arch = arch; «package» = n }) (first_failing arch group (judged_on arch old) (judged_on arch new))

-- the first element, if there is one
abbrev pub first_of : {A : Type 0} → List A → Option A
first_of [] = None
first_of (x ∷ xs) = Some x

-- the first row that a change breaks, by architecture in listed order and then by package name (this office decides the
-- order). Without one the change is allowed
abbrev pub offender_of : List Text → List RowIn → List RowIn → List Text → Option Offender
offender_of archs old new group = first_of (filter_map (offender_on old new group) (range_with_len 0 (length archs)))
