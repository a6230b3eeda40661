-- A binary package; the clauses of both fields are read together, and the source by its field.
use Rattle.std.specs.Prelude.{ℕ, Bool, ◌&&◌, List, ◌++◌, Option, Result, Ok}
use Rattle.std.specs.Option.{option_map_or}
use Rattle.std.specs.Str.{bytes_eq}
use Rattle.deb_control.specs.Results.{◌>>=◌, needs}
use Rattle.deb_control.specs.Paragraphs.{Field, value_of}
use Rattle.deb_control.specs.Relations.{is_package_name, is_version, clauses_in, provisions_in}
use Rattle.deb_control.specs.Binary.{field_name, required, optional, of_field, is_architecture, source_in}
use Rattle.deb_control.specs.declared.relation.Alternative.{Alternative}
use Rattle.deb_control.specs.declared.fault.BinaryField.TheVariants.{Package, Version, Architecture, Source, PreDepends, Depends, Provides}
use Rattle.deb_control.specs.declared.fault.RelationFault.{RelationFault}
use Rattle.deb_control.specs.declared.fault.BinaryFault.{BinaryFault}
use Rattle.deb_control.specs.declared.fault.BinaryFault.TheVariants.{BadName, BadVersion}
use Rattle.deb_control.specs.declared.binary.Binary.{Binary}

-- the source's name and version; without the field they are the package's own
abbrev pub source_of : Option (List ℕ) → List ℕ → List ℕ → Result (List ℕ × List ℕ) RelationFault
source_of found name version = option_map_or (source_in version) found (Ok (name, version))

-- the needs of a paragraph's package: the clauses of Pre-Depends, then those of Depends, or the first fault in these
unfoldable pub needs_in : List Field → Result (List (List Alternative)) BinaryFault
needs_in p = do
  before ← of_field PreDepends (clauses_in (optional p PreDepends))
  depends ← of_field Depends (clauses_in (optional p Depends))
  Ok (before ++ depends)

-- the texts of both fields are the same
abbrev pub needs_same : List Field → List Field → Bool
needs_same p q = bytes_eq (optional p PreDepends) (optional q PreDepends) && bytes_eq (optional p Depends) (optional q Depends)

-- the binary of a paragraph, or its first fault
unfoldable pub binary_by : List Field → Result Binary BinaryFault
binary_by p = do
  name ← required p Package
  version ← required p Version
  architecture ← required p Architecture
  _ ← needs (is_package_name name) (BadName Package)
  _ ← needs (is_version version) (BadVersion Version)
  _ ← needs (is_architecture architecture) (BadName Architecture)
  source ← of_field Source (source_of (value_of p (field_name Source)) name version)
  clauses ← needs_in p
  provides ← of_field Provides (provisions_in (optional p Provides))
  Ok (record {
    name = name;
    version = version;
    architecture = architecture;
    source = source.0;
    source_version = source.1;
    clauses = clauses;
    provides = provides;
  })
