-- What `office compare V1 OP V2` answers.
use Rattle.std.specs.Prelude.{ℕ, Bool, true, false, if◌then◌else◌, Option, Some, None, Result, Ok, Err, List, codes}
use Rattle.std.specs.Str.{bytes_eq}
use Rattle.std.specs.declared.cmp.Ordering.{Ordering}
use Rattle.std.specs.Ordering.{is_lt, is_le, is_eq, is_ge, is_gt}
use Rattle.deb_version.specs.Order.{text_cmp}
use Rattle.deb_version.specs.declared.faults.CompareFault.{CompareFault}
use Rattle.office_cli_words.specs.declared.versions.Comparison.{Comparison}
use Rattle.office_cli_words.specs.declared.versions.Comparison.TheVariants.{Below, AtMost, Same, AtLeast, Above}
use Rattle.office_cli_words.specs.declared.versions.Refusal.{Refusal}
use Rattle.office_cli_words.specs.declared.versions.Refusal.TheVariants.{UnknownComparison, Version}

-- the comparison that a word names
abbrev pub comparison_of : List ℕ → Option Comparison
comparison_of op =
    if bytes_eq op (codes "lt") then Some Below
    else if bytes_eq op (codes "le") then Some AtMost
    else if bytes_eq op (codes "eq") then Some Same
    else if bytes_eq op (codes "ge") then Some AtLeast
    else if bytes_eq op (codes "gt") then Some Above
    else None

-- whether an order is as a comparison asks
abbrev pub holds_at : Comparison → Ordering → Bool
holds_at Below order = is_lt order
holds_at AtMost order = is_le order
holds_at Same order = is_eq order
holds_at AtLeast order = is_ge order
holds_at Above order = is_gt order

-- whether a comparison, if it is known, holds for two compared texts, or which of them is no version
abbrev pub judged : Option Comparison → Result Ordering CompareFault → Result Bool Refusal
judged None compared = Err UnknownComparison
judged (Some comparison) (Ok order) = Ok (holds_at comparison order)
judged (Some comparison) (Err fault) = Err (Version fault)

-- the answer to V1 OP V2: an unknown OP is refused before V1, and V1 before V2
abbrev pub answer : List ℕ → List ℕ → List ℕ → Result Bool Refusal
answer v1 op v2 = judged (comparison_of op) (text_cmp v1 v2)

-- the exit status for an answer
abbrev pub status_of : Result Bool Refusal → ℕ
status_of (Ok true) = 0
status_of (Ok false) = 1
status_of (Err UnknownComparison) = 2
status_of (Err (Version fault)) = 3
