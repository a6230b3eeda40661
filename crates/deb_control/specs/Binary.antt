-- The binary package that a paragraph describes (Debian Policy 5.3; its fields 5.6.1, 5.6.7, 5.6.8, 5.6.12, 7.2 and
-- 7.5).
use Rattle.std.specs.Prelude.{ℕ, Bool, false, ◌&&◌, nat_le, if◌then◌else◌, List, [], ◌∷◌, ◌++◌, length, codes, unwrap_or, Result, Ok}
use Rattle.std.specs.List.{list_all}
use Rattle.std.specs.Option.{option_map_or}
use Rattle.std.specs.Result.{result_map_both}
use Rattle.deb_version.specs.Characters.{char}
use Rattle.deb_control.specs.Text.{is_white}
use Rattle.deb_control.specs.Results.{◌>>=◌, given, needs}
use Rattle.deb_control.specs.Paragraphs.{Field, value_of}
use Rattle.deb_control.specs.Relations.{is_package_name, is_version, is_lower_or_digit, is_qualifier_char, skip_white, word_in, after_char, ends_name, version_in, clauses_in, provisions_in}
use Rattle.deb_control.specs.declared.fault.RelationFault.{RelationFault}
use Rattle.deb_control.specs.declared.fault.RelationFault.TheVariants as relation
use Rattle.deb_control.specs.declared.fault.BinaryField.{BinaryField}
use Rattle.deb_control.specs.declared.fault.BinaryField.TheVariants.{Package, Version, Architecture, Source, PreDepends, Depends, Provides}
use Rattle.deb_control.specs.declared.fault.BinaryFault.{BinaryFault}
use Rattle.deb_control.specs.declared.fault.BinaryFault.TheVariants.{MissingField, BadName, BadVersion, BadRelation, NoMemory}
use Rattle.deb_control.specs.declared.binary.Binary.{Binary}

-- the name of a field
abbrev pub field_name : BinaryField → List ℕ
field_name Package = codes "Package"
field_name Version = codes "Version"
field_name Architecture = codes "Architecture"
field_name Source = codes "Source"
field_name PreDepends = codes "Pre-Depends"
field_name Depends = codes "Depends"
field_name Provides = codes "Provides"

-- the value of a mandatory field
abbrev pub required : List Field → BinaryField → Result (List ℕ) BinaryFault
required paragraph field = given (value_of paragraph (field_name field)) (MissingField field)

-- the value of an optional field, or empty
abbrev pub optional : List Field → BinaryField → List ℕ
optional paragraph field = unwrap_or (value_of paragraph (field_name field)) []

-- the fault with its field
abbrev pub fault_of : BinaryField → RelationFault → BinaryFault
fault_of field relation.BadName = BadName field
fault_of field relation.BadVersion = BadVersion field
fault_of field relation.BadRelation = BadRelation field
fault_of field relation.NoMemory = NoMemory

-- the result of reading a field, with the field in its fault
abbrev pub of_field : {A : Type 0} → BinaryField → Result A RelationFault → Result A BinaryFault
of_field field said = result_map_both (λ value. value) (fault_of field) said

-- an architecture: 1 to 32 lower case letters, digits and `-`, beginning with a letter or digit (Debian Policy 5.6.8;
-- the limit is this project's)
unfoldable pub is_architecture : List ℕ → Bool
is_architecture [] = false
is_architecture (c ∷ cs) = is_lower_or_digit c && list_all is_qualifier_char cs && nat_le (length cs) 31

-- A source: a name, and perhaps a version in parentheses, with white before each part (Debian Policy 5.6.1). Without a
-- version it has the binary's.
unfoldable pub source_in : List ℕ → List ℕ → Result (List ℕ × List ℕ) RelationFault
source_in version text = do
  let word = word_in ends_name text
  _ ← needs (is_package_name word.0) relation.BadName
  if list_all is_white word.1 then Ok (word.0, version) else do
    inside ← given (after_char (char "(") (skip_white word.1)) relation.BadRelation
    Ok (word.0, (← version_in inside))

-- The binary of a paragraph, or its first fault: first of the missing fields, then of the fields in this order. Without
-- a field Source the source has the package's own name and version (Debian Policy 5.6.1).
unfoldable pub binary_of : List Field → Result Binary BinaryFault
binary_of p = do
  name ← required p Package
  version ← required p Version
  architecture ← required p Architecture
  _ ← needs (is_package_name name) (BadName Package)
  _ ← needs (is_version version) (BadVersion Version)
  _ ← needs (is_architecture architecture) (BadName Architecture)
  source ← of_field Source (option_map_or (source_in version) (value_of p (field_name Source)) (Ok (name, version)))
  before ← of_field PreDepends (clauses_in (optional p PreDepends))
  depends ← of_field Depends (clauses_in (optional p Depends))
  provides ← of_field Provides (provisions_in (optional p Provides))
  Ok (record {
    name = name;
    version = version;
    architecture = architecture;
    source = source.0;
    source_version = source.1;
    clauses = before ++ depends;
    provides = provides;
  })
