-- Unstable, the bugs and the hints in force, according to the covered messages. Versions compare as in Debian Policy
-- 5.6.12. This office decides which of two messages on the same subject counts, and all orders.
use Rattle.std.specs.Prelude.{ℕ, Bool, true, false, ◌&&◌, ◌||◌, not, ◌==◌, List, [], ◌∷◌, ◌++◌, map, filter, Option, codes, length}
use Rattle.std.specs.List.{filter_map, flat_map, list_any, list_all, enumerate_from, range_with_len}
use Rattle.std.specs.Option.{option_map_or}
use Rattle.std.specs.declared.cmp.Ordering.{Ordering}
use Rattle.std.specs.Ordering.{nat_cmp, on, flip_args, then_cmp}
use Rattle.std.specs.Str.{bytes_eq}
use Rattle.deb_version.specs.Order.{version_cmp}
use Rattle.testing_rules_items.specs.declared.item.Severity.{Severity}
use Rattle.testing_rules_items.specs.declared.item.Severity.TheVariants.{Critical, Grave, Serious}
use Rattle.testing_rules_model.specs.declared.facts.UploadIn.{UploadIn}
use Rattle.testing_rules_model.specs.declared.facts.BuildIn.{BuildIn}
use Rattle.testing_rules_model.specs.declared.facts.DropIn.{DropIn}
use Rattle.testing_rules_model.specs.declared.facts.BugIn.{BugIn}
use Rattle.testing_rules_model.specs.declared.facts.HintIn.{HintIn}
use Rattle.testing_rules_model.specs.declared.facts.UnhintIn.{UnhintIn}
use Rattle.testing_rules_model.specs.declared.facts.DelaysIn.{DelaysIn}
use Rattle.testing_rules_model.specs.declared.suite.RowIn.{RowIn}
use Rattle.testing_rules_items.specs.Words.{Text, byte_cmp, is_above, is_same_version, least, sorted_by, all_place}
use Rattle.testing_rules_model.specs.Covered.{Covered, uploads_in, builds_in, drops_in, bugs_in, hints_in, unhints_in, delays_in}

-- uploads in the order in which they count: the greatest version first, then by sender and number
abbrev pub upload_order : UploadIn → UploadIn → Ordering
upload_order = then_cmp (flip_args (on (λ u. u.version) version_cmp)) (then_cmp (on (λ u. u.sender) nat_cmp) (on (λ u. u.number) nat_cmp))

-- the unstable source of a name: its first upload in this order
abbrev pub unstable_source : Covered → Text → Option UploadIn
unstable_source s name = least upload_order (filter (λ u. bytes_eq u.source name) (uploads_in s))

-- unstable's sources, by name (Debian Developer's Reference 5.13: what may come to testing)
abbrev pub unstable_sources : Covered → List UploadIn
unstable_sources s = filter_map (unstable_source s) (sorted_by (λ name. name) byte_cmp (map (λ u. u.source) (uploads_in s)))

-- the build is of this architecture and binary name
abbrev pub is_build_of : Text → Text → BuildIn → Bool
is_build_of arch name b = bytes_eq b.binary.architecture arch && bytes_eq b.binary.name name

-- its version is above that of every drop of its architecture and name (this office decides it)
abbrev pub is_above_drops : Covered → BuildIn → Bool
is_above_drops s b =
    list_all (λ d. not (bytes_eq d.arch b.binary.architecture && bytes_eq d.name b.binary.name) || is_above b.binary.version d.version) (drops_in s)

-- builds in the order in which they count: the greatest version first, then by sender, number and place
abbrev pub build_order : BuildIn → BuildIn → Ordering
build_order =
    then_cmp (flip_args (on (λ b. b.binary.version) version_cmp))
    (then_cmp (on (λ b. b.sender) nat_cmp) (then_cmp (on (λ b. b.number) nat_cmp) (on (λ b. b.place) nat_cmp)))

-- the unstable row of an architecture and a binary name: the first in this order of its builds above every drop
abbrev pub unstable_row : Covered → Text → Text → Option BuildIn
unstable_row s arch name = least build_order (filter (λ b. is_build_of arch name b && is_above_drops s b) (builds_in s))

-- the order of rows: by architecture and then by name
abbrev pub pair_order : Text × Text → Text × Text → Ordering
pair_order = then_cmp (on (λ p. p.0) byte_cmp) (on (λ p. p.1) byte_cmp)

-- the architecture and the name of a build
abbrev pub pair_of : BuildIn → Text × Text
pair_of b = (b.binary.architecture, b.binary.name)

-- drops in the order in which they count: the greatest version first, then by sender and number
abbrev pub drop_order : DropIn → DropIn → Ordering
drop_order = then_cmp (flip_args (on (λ d. d.version) version_cmp)) (then_cmp (on (λ d. d.sender) nat_cmp) (on (λ d. d.number) nat_cmp))

-- the drop is of this architecture and binary name
abbrev pub is_drop_of : Text → Text → DropIn → Bool
is_drop_of arch name d = bytes_eq d.arch arch && bytes_eq d.name name

-- the greatest drop of an architecture and a binary name: the first in this order
abbrev pub greatest_drop : Covered → Text → Text → Option DropIn
greatest_drop s arch name = least drop_order (filter (is_drop_of arch name) (drops_in s))

-- the architecture and the name of a drop
abbrev pub drop_pair : DropIn → Text × Text
drop_pair d = (d.arch, d.name)

-- the greatest drops, by architecture and name
abbrev pub greatest_drops : Covered → List DropIn
greatest_drops s = filter_map (λ p. greatest_drop s p.0 p.1) (sorted_by (λ p. p) pair_order (map drop_pair (drops_in s)))

-- unstable's rows as their builds, by architecture and name
abbrev pub unstable_builds : Covered → List BuildIn
unstable_builds s = filter_map (λ p. unstable_row s p.0 p.1) (sorted_by (λ p. p) pair_order (map pair_of (builds_in s)))

-- the architectures with their places: the listed ones from 0, and then `all` (Debian Policy 5.6.8)
abbrev pub places : List Text → List (ℕ × Text)
places archs = enumerate_from 0 archs ++ (all_place, codes "all") ∷ []

-- the places alone
abbrev pub place_numbers : List Text → List ℕ
place_numbers archs = range_with_len 0 (length archs) ++ all_place ∷ []

-- a build as a row of the architecture at this place
abbrev pub row_at : ℕ → BuildIn → RowIn
row_at arch b = record { arch = arch; binary = b.binary; sender = b.sender; number = b.number; place = b.place }

-- builds as rows, by the place of their architecture
abbrev pub built_rows : List Text → List BuildIn → List RowIn
built_rows archs builds =
    flat_map (λ p. map (row_at p.0) (filter (λ b. bytes_eq b.binary.architecture p.1) builds)) (places archs)

-- unstable's rows, by the place of their architecture and by name
abbrev pub unstable_rows : List Text → Covered → List RowIn
unstable_rows archs s = built_rows archs (unstable_builds s)

-- the row names the source of an upload
abbrev pub is_of_source : UploadIn → RowIn → Bool
is_of_source u r = bytes_eq r.binary.source u.source

-- the row is current: built from the source's unstable version, so not out of date (Debian Developer's Reference
-- 5.13.2.1)
abbrev pub is_current : UploadIn → RowIn → Bool
is_current u r = is_of_source u r && is_same_version r.binary.source_version u.version

-- messages on bugs in the order in which they count: the greatest number first, then by sender
abbrev pub bug_order : BugIn → BugIn → Ordering
bug_order = then_cmp (flip_args (on (λ b. b.number) nat_cmp)) (on (λ b. b.sender) nat_cmp)

-- the last message on a bug: the first in this order
abbrev pub bug_state : Covered → ℕ → Option BugIn
bug_state s bug = least bug_order (filter (λ b. b.bug == bug) (bugs_in s))

-- the states of all bugs, by bug number
abbrev pub bug_states : Covered → List BugIn
bug_states s = filter_map (bug_state s) (sorted_by (λ n. n) nat_cmp (map (λ b. b.bug) (bugs_in s)))

-- critical, grave and serious bugs are release-critical (Debian Developer's Reference 5.13)
abbrev pub is_release_critical : Severity → Bool
is_release_critical Critical = true
is_release_critical Grave = true
is_release_critical Serious = true
is_release_critical _ = false

-- the bug affects a version: from the version in which it was found, up to but without the one that fixes it (this
-- office decides it)
abbrev pub affects : BugIn → Text → Bool
affects b v = option_map_or (λ found. not (is_above found v)) b.found true && option_map_or (λ fixed. is_above fixed v) b.fixed true

-- the order of hints: by number, then by sender (this office decides it)
abbrev pub hint_order : HintIn → HintIn → Ordering
hint_order = then_cmp (on (λ h. h.number) nat_cmp) (on (λ h. h.sender) nat_cmp)

-- the order of unhints: by number, then by sender (this office decides it)
abbrev pub unhint_order : UnhintIn → UnhintIn → Ordering
unhint_order = then_cmp (on (λ c. c.number) nat_cmp) (on (λ c. c.sender) nat_cmp)

-- the hints in their order
abbrev pub hints_by_number : Covered → List HintIn
hints_by_number s = sorted_by (λ h. h) hint_order (hints_in s)

-- the unhints in their order
abbrev pub unhints_by_number : Covered → List UnhintIn
unhints_by_number s = sorted_by (λ c. c) unhint_order (unhints_in s)

-- no unhint names the hint (this office decides it: hints come by mail, and leave by mail)
abbrev pub is_in_force : List UnhintIn → HintIn → Bool
is_in_force unhints h = not (list_any (λ c. c.cancels == h.number) unhints)

-- the hints in force, by number: those that no unhint names
abbrev pub in_force : Covered → List HintIn
in_force s = filter (is_in_force (unhints_by_number s)) (hints_by_number s)

-- messages on delays in the order in which they count: the greatest number first, then by sender
abbrev pub delays_order : DelaysIn → DelaysIn → Ordering
delays_order = then_cmp (flip_args (on (λ d. d.number) nat_cmp)) (on (λ d. d.sender) nat_cmp)

-- the last message on delays (this office decides it)
abbrev pub last_delays : Covered → Option DelaysIn
last_delays s = least delays_order (delays_in s)
