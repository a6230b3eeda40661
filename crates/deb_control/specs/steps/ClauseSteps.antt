-- The character between items, a clause of one alternative, a leading package name, and a sign by its characters.
use Rattle.std.specs.Prelude.{ℕ, Bool, ◌&&◌, ◌||◌, ◌==◌, if◌then◌else◌, nat_le, List, [], ◌∷◌, length, slice_index, Option, Some, None, Result, Ok}
use Rattle.deb_version.specs.Characters.{char}
use Rattle.deb_control.specs.Results.{◌>>=◌}
use Rattle.deb_control.specs.Relations.{is_lower_or_digit, ends_name, alternative_in}
use Rattle.deb_control.specs.declared.fault.RelationFault.{RelationFault}
use Rattle.deb_control.specs.declared.relation.Op.{Op}
use Rattle.deb_control.specs.declared.relation.Op.TheVariants.{Below, AtMost, Equal, AtLeast, Above}
use Rattle.deb_control.specs.declared.relation.Signs.TheVariants.{Any}
use Rattle.deb_control.specs.declared.relation.Alternative.{Alternative}

-- the character between two items
abbrev pub is_comma : ℕ → Bool
is_comma c = c == char ","

-- the text as one alternative
abbrev pub only_one : List ℕ → Result (List Alternative) RelationFault
only_one item = alternative_in Any item >>= λ a. Ok (a ∷ [])

-- the first n characters are a package name
abbrev pub is_package : List ℕ → ℕ → Bool
is_package text n = nat_le 2 n && is_lower_or_digit (slice_index text 0) && (n == length text || ends_name (slice_index text n))

-- The sign of a relation and the rest after it, once its first character `<` is read: `<<`, `<=`, or the old sign `<`,
-- which means `<=`. The longest sign is taken (Debian Policy 7.1; this office reads old signs).
abbrev pub less_sign : List ℕ → Op × List ℕ
less_sign [] = (AtMost, [])
less_sign (c ∷ cs) = if c == char "<" then (Below, cs) else (if c == char "=" then (AtMost, cs) else (AtMost, c ∷ cs))

-- the same for `>`: `>>`, `>=`, or the old sign `>`, which means `>=`
abbrev pub greater_sign : List ℕ → Op × List ℕ
greater_sign [] = (AtLeast, [])
greater_sign (c ∷ cs) = if c == char ">" then (Above, cs) else (if c == char "=" then (AtLeast, cs) else (AtLeast, c ∷ cs))

-- the sign at the front by its first character, and the rest after it
unfoldable pub sign_by : List ℕ → Option (Op × List ℕ)
sign_by [] = None
sign_by (c ∷ cs) =
    if c == char "<" then Some (less_sign cs)
    else (if c == char "=" then Some (Equal, cs)
    else (if c == char ">" then Some (greater_sign cs) else None))
