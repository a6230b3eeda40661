-- Relations between packages (Debian Policy 7.1 and 7.5): which texts are clauses and provisions, and the first fault
-- from the left of any other text.
use Rattle.std.specs.Prelude.{ℕ, Bool, true, false, not, ◌&&◌, ◌||◌, ◌==◌, nat_le, if◌then◌else◌, List, [], ◌∷◌, length, drop, Option, Some, None, is_none, Result, Ok, Err, codes, nat_eq}
use Rattle.std.specs.List.{list_all, filter, find, starts_with, slice_split, prefix_len, position_or_len, before_first}
use Rattle.std.specs.Option.{option_map}
use Rattle.std.specs.declared.cmp.Ordering.{Ordering}
use Rattle.std.specs.Ordering.{is_lt, is_le, is_eq, is_ge, is_gt}
use Rattle.deb_version.specs.Characters.{char}
use Rattle.deb_version.specs.Text.{version_fault}
use Rattle.deb_version.specs.Order.{version_cmp}
use Rattle.deb_control.specs.Text.{is_white}
pub use Rattle.deb_control.specs.Results.{◌>>=◌}
use Rattle.deb_control.specs.Results.{given, needs, each_of}
use Rattle.deb_control.specs.declared.fault.RelationFault.{RelationFault}
use Rattle.deb_control.specs.declared.fault.RelationFault.TheVariants.{BadName, BadVersion, BadRelation}
use Rattle.deb_control.specs.declared.relation.Op.{Op}
use Rattle.deb_control.specs.declared.relation.Op.TheVariants.{Below, AtMost, Equal, AtLeast, Above}
use Rattle.deb_control.specs.declared.relation.Signs.{Signs}
use Rattle.deb_control.specs.declared.relation.Signs.TheVariants.{Any, EqualAlone}
use Rattle.deb_control.specs.declared.relation.Relation.{Relation}
use Rattle.deb_control.specs.declared.relation.Alternative.{Alternative}
use Rattle.deb_control.specs.declared.relation.Provision.{Provision}

-- how a version must compare with the one in the relation (Debian Policy 7.1)
abbrev pub is_in : Op → Ordering → Bool
is_in Below o = is_lt o
is_in AtMost o = is_le o
is_in Equal o = is_eq o
is_in AtLeast o = is_ge o
is_in Above o = is_gt o

-- the version v is in the relation, by the order of versions (Debian Policy 5.6.12)
unfoldable pub holds : Relation → List ℕ → Bool
holds relation v = is_in relation.op (version_cmp v relation.version)

-- a lower case ASCII letter or a digit
abbrev pub is_lower_or_digit : ℕ → Bool
is_lower_or_digit c = nat_le (char "a") c && nat_le c (char "z") || nat_le (char "0") c && nat_le c (char "9")

-- a character of a package name: a lower case letter, a digit, `+`, `-` or `.` (Debian Policy 5.6.1)
abbrev pub is_package_char : ℕ → Bool
is_package_char c = is_lower_or_digit c || c == char "+" || c == char "-" || c == char "."

-- a package name: at least two of these characters, the first a letter or digit (Debian Policy 5.6.1)
unfoldable pub is_package_name : List ℕ → Bool
is_package_name [] = false
is_package_name (c ∷ cs) = is_lower_or_digit c && nat_le 1 (length cs) && list_all is_package_char cs

-- the text is a version (Debian Policy 5.6.12)
unfoldable pub is_version : List ℕ → Bool
is_version text = is_none (version_fault text)

-- the text without the white at its front
abbrev pub skip_white : List ℕ → List ℕ
skip_white text = drop (prefix_len is_white text) text

-- the word at the front, after white, up to the first character that ends it, and the rest
abbrev pub word_in : (ℕ → Bool) → List ℕ → List ℕ × List ℕ
word_in ends text = let t = skip_white text in (before_first ends t, drop (position_or_len ends t) t)

-- the rest after this character, if the text begins with it
abbrev pub after_char : ℕ → List ℕ → Option (List ℕ)
after_char c [] = None
after_char c (x ∷ xs) = if x == c then Some xs else None

-- a name ends at the first white, `:`, `(`, `[`, `<` or at the end
abbrev pub ends_name : ℕ → Bool
ends_name c = is_white c || c == char ":" || c == char "(" || c == char "[" || c == char "<"

-- a version ends at the first white or `)`, or at the end
abbrev pub ends_version : ℕ → Bool
ends_version c = is_white c || c == char ")"

-- a character of a qualifier, like `any` in `python3:any`: a lower case letter, a digit or `-`. Qualifiers are ignored.
abbrev pub is_qualifier_char : ℕ → Bool
is_qualifier_char c = is_lower_or_digit c || c == char "-"

-- the rest after a qualifier, if there is one: `:` and at least one of its characters
unfoldable pub after_qualifier : List ℕ → Result (List ℕ) RelationFault
after_qualifier [] = Ok []
after_qualifier (c ∷ cs) =
    let n = prefix_len is_qualifier_char cs in
    if c == char ":" then (if n == 0 then Err BadRelation else Ok (drop n cs)) else Ok (c ∷ cs)

-- the signs and what they mean, each before those that it begins with (Debian Policy 7.1; this office also reads the
-- old signs `<` and `>`, which mean `<=` and `>=`)
abbrev pub known_signs : List (List ℕ × Op)
known_signs =
    (codes "<<", Below) ∷ (codes "<=", AtMost) ∷ (codes "<", AtMost) ∷ (codes "=", Equal)
    ∷ (codes ">>", Above) ∷ (codes ">=", AtLeast) ∷ (codes ">", AtLeast) ∷ []

-- the sign at the front, and the rest after it: the first of these signs that the text begins with
unfoldable pub sign_in : List ℕ → Option (Op × List ℕ)
sign_in text = option_map (λ s. (s.1, drop (length s.0) text)) (find (λ s. starts_with nat_eq text s.0) known_signs)

-- a version and `)`, which ends the text, with white before each
unfoldable pub version_in : List ℕ → Result (List ℕ) RelationFault
version_in text = do
  let word = word_in ends_version text
  _ ← needs (is_version word.0) BadVersion
  end ← given (after_char (char ")") (skip_white word.1)) BadRelation
  _ ← needs (list_all is_white end) BadRelation
  Ok word.0

-- any sign is allowed in a dependency, only `=` in a provision (Debian Policy 7.5)
abbrev pub allows : Signs → Op → Bool
allows Any op = true
allows EqualAlone Equal = true
allows EqualAlone _ = false

-- the text after a name: white to the end, or a sign that is allowed and a version in parentheses
unfoldable pub relation_in : Signs → List ℕ → Result (Option Relation) RelationFault
relation_in signs rest =
    if list_all is_white rest then Ok None else do
      inside ← given (after_char (char "(") (skip_white rest)) BadRelation
      sign ← given (sign_in (skip_white inside)) BadRelation
      _ ← needs (allows signs sign.0) BadRelation
      Ok (Some (record { op = sign.0; version = (← version_in sign.1) }))

-- an alternative: a name, perhaps a qualifier, and perhaps a relation (Debian Policy 7.1)
unfoldable pub alternative_in : Signs → List ℕ → Result Alternative RelationFault
alternative_in signs text = do
  let word = word_in ends_name text
  _ ← needs (is_package_name word.0) BadName
  rest ← after_qualifier word.1
  Ok (record { name = word.0; relation = (← relation_in signs rest) })

-- the character between two alternatives
abbrev pub is_bar : ℕ → Bool
is_bar c = c == char "|"

-- the items of a list separated by commas; an item of only white is skipped
unfoldable pub items : List ℕ → List (List ℕ)
items text = filter (λ item. not (list_all is_white item)) (slice_split (λ c. c == char ",") text)

-- a clause: alternatives separated by `|`
unfoldable pub clause_in : List ℕ → Result (List Alternative) RelationFault
clause_in item = each_of (alternative_in Any) (slice_split is_bar item)

-- the clauses of a text, as in `Depends` and `Pre-Depends` (Debian Policy 7.2), or its first fault
unfoldable pub clauses_in : List ℕ → Result (List (List Alternative)) RelationFault
clauses_in text = each_of clause_in (items text)

-- an alternative as a provision: a name, and perhaps the version in which it is provided
abbrev pub provision_of : Alternative → Provision
provision_of a = record { name = a.name; version = option_map (λ (r : Relation). r.version) a.relation }

-- a provision: an alternative with no sign but `=` (Debian Policy 7.5)
unfoldable pub provision_in : List ℕ → Result Provision RelationFault
provision_in item = alternative_in EqualAlone item >>= λ a. Ok (provision_of a)

-- the provisions of a text, or its first fault
unfoldable pub provisions_in : List ℕ → Result (List Provision) RelationFault
provisions_in text = each_of provision_in (items text)
