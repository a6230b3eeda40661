-- What is true of each paragraph that is read (Debian Policy 5.1).
use Rattle.std.specs.Prelude.{◌≡◌, ℕ, true, false, List, [], ◌∷◌, ◌++◌, ⊤}
use Rattle.std.specs.List.{AllByRecursion}
use Rattle.deb_control.specs.Paragraphs.{Field, is_field_name, has_name, reading}

-- Each name is a valid field name and occurs only once, these earlier names included.
abbrev pub AreWellNamed : List (List ℕ) → List Field → Type 0
AreWellNamed names [] = ⊤
AreWellNamed names (f ∷ fs) = (is_field_name f.0 ≡ true) × (has_name names f.0 ≡ false) × AreWellNamed (names ++ f.0 ∷ []) fs

-- A paragraph has at least one field, and its names are valid.
abbrev pub IsWellFormed : List Field → Type 0
IsWellFormed [] = ⊥
IsWellFormed (f ∷ fs) = AreWellNamed [] (f ∷ fs)

-- The law: whatever the bytes, each paragraph that is read is well formed.
abbrev pub ReadsWellFormed : Type 0
ReadsWellFormed = (bytes : List ℕ) → AllByRecursion IsWellFormed (reading bytes).paragraphs
