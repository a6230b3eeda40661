-- The values of fields: numbers, days, names, versions, urgencies and severities.
use Rattle.std.specs.Prelude.{◌≡◌, ℕ, Bool, true, false, not, ◌&&◌, ◌||◌, ◌==◌, nat_le, if◌then◌else◌, List, [], ◌∷◌, length, take, drop, slice_index, codes, Option, Some, None}
use Rattle.std.specs.List.{list_all, filter, slice_split, before_first}
use Rattle.std.specs.Char.{is_ascii_digit}
use Rattle.std.specs.Map.{lookup}
use Rattle.std.specs.Str.{bytes_eq, str_eq_ignore_ascii_case}
use Rattle.std.specs.Str.Parse.{digits_value}
use Rattle.deb_version.specs.Characters.{char}
use Rattle.deb_control.specs.Text.{is_white}
use Rattle.deb_control.specs.Paragraphs.{not_empty}
use Rattle.deb_control.specs.Relations.{is_package_name, is_version}
use Rattle.jiff_core.specs.declared.civil.date.Date.{Date}
use Rattle.office_mail_setup.specs.Calendar.{IsDay}
use Rattle.testing_rules_items.specs.declared.item.Urgency.{Urgency}
use Rattle.testing_rules_items.specs.declared.item.Urgency.TheVariants.{Low, Medium, High, Emergency, Critical}
use Rattle.testing_rules_items.specs.declared.item.Severity.{Severity}
use Rattle.testing_rules_items.specs.declared.item.Severity.TheVariants as severity

-- the value if it passes, else none
abbrev pub some_if : {A : Type 0} → Bool → A → Option A
some_if passes value = if passes then Some value else None

-- a number: decimal digits without a leading zero
unfoldable pub is_number : List ℕ → Bool
is_number [] = false
is_number (c ∷ cs) = list_all is_ascii_digit (c ∷ cs) && (not (c == char "0") || length cs == 0)

-- the number in a text, if it is from low to high
unfoldable pub number_in : ℕ → ℕ → List ℕ → Option ℕ
number_in low high text =
    some_if (is_number text && nat_le low (digits_value 10 text) && nat_le (digits_value 10 text) high) (digits_value 10 text)

-- a number of days
abbrev pub days_in : List ℕ → Option ℕ
days_in text = number_in 0 9_999 text

-- the words of a text, separated by white
unfoldable pub words : List ℕ → List (List ℕ)
words text = filter not_empty (slice_split is_white text)

-- four digits, a hyphen, two digits, a hyphen and two digits
unfoldable pub is_day_form : List ℕ → Bool
is_day_form text =
    length text == 10 && slice_index text 4 == char "-" && slice_index text 7 == char "-"
    && list_all is_ascii_digit (take 4 text) && list_all is_ascii_digit (take 2 (drop 5 text)) && list_all is_ascii_digit (take 2 (drop 8 text))

-- the text is this date, as YYYY-MM-DD (ISO 8601)
abbrev pub IsDayText : List ℕ → Date → Type 0
IsDayText text date =
    (is_day_form text ≡ true) × IsDay (digits_value 10 (take 4 text)) (digits_value 10 (take 2 (drop 5 text))) (digits_value 10 (take 2 (drop 8 text))) date

-- a package name (Debian Policy 5.6.1), whose value is its text
abbrev pub package_in : List ℕ → Option (List ℕ)
package_in text = some_if (is_package_name text) text

-- a version (Debian Policy 5.6.12), whose value is its text
abbrev pub version_in : List ℕ → Option (List ℕ)
version_in text = some_if (is_version text) text

-- an urgency (Debian Policy 5.6.17), without regard to ASCII case
unfoldable pub urgency_named : List ℕ → Option Urgency
urgency_named word = lookup (str_eq_ignore_ascii_case word) (
    (codes "low", Low) ∷ (codes "medium", Medium) ∷ (codes "high", High) ∷ (codes "emergency", Emergency)
    ∷ (codes "critical", Critical) ∷ [])

-- an urgency ends at the first space or tab, where commentary may begin, or at the end
abbrev pub ends_urgency : ℕ → Bool
ends_urgency c = c == char " " || c == char "\t"

-- the urgency at the front of a text (Debian Policy 5.6.17)
unfoldable pub urgency_in : List ℕ → Option Urgency
urgency_in text = urgency_named (before_first ends_urgency text)

-- a bug's severity
unfoldable pub severity_in : List ℕ → Option Severity
severity_in text = lookup (bytes_eq text) (
    (codes "critical", severity.Critical) ∷ (codes "grave", severity.Grave) ∷ (codes "serious", severity.Serious)
    ∷ (codes "important", severity.Important) ∷ (codes "normal", severity.Normal) ∷ (codes "minor", severity.Minor)
    ∷ (codes "wishlist", severity.Wishlist) ∷ [])
