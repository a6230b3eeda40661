-- Which covered message gave an entry of testing.
use Rattle.std.specs.Prelude.{◌≡◌, ℕ, zero, suc, ◌<◌, ◌≤◌, ◌⊎◌, List, length, Option, Some, None, Contains}
use Rattle.std.specs.List.{slice_get}
use Rattle.jiff_core.specs.declared.civil.date.Date.{Date}
use Rattle.deb_control.specs.declared.binary.Binary.{Binary}
use Rattle.testing_rules_items.specs.declared.item.Item.TheVariants.{Upload, Build}
use Rattle.testing_rules_items.specs.declared.item.Urgency.{Urgency}
use Rattle.testing_rules_model.specs.declared.suite.SourceIn.{SourceIn}
use Rattle.testing_rules_model.specs.declared.suite.RowIn.{RowIn}
use Rattle.testing_rules_model.specs.declared.excuse.Excuse.{Excuse}
use Rattle.testing_rules_items.specs.Words.{Text, arch_name, all_place, most_archs}
use Rattle.testing_rules_model.specs.Suite.{Suite}
use Rattle.testing_rules_model.specs.Covered.{Covered}
use Rattle.testing_rules_model.specs.Updates.{update_of}

-- a covered upload names the source at this version
pub record IsUploaded (s : Covered) (source : SourceIn) : Type 0 where
  pub urgency : Urgency
  pub day : Date
  pub upload : Contains s (record { sender = source.sender; number = source.number; item = Upload source.name source.version urgency day })

-- the binary of a build at a place, counted from 1
abbrev pub binary_in : List Binary → ℕ → Option Binary
binary_in binaries zero = None
binary_in binaries (suc i) = slice_get binaries i

-- a place of an architecture: of a listed one, or of `all`
abbrev pub IsArchPlace : List Text → ℕ → Type 0
IsArchPlace archs place = (place < length archs) ⊎ (place ≡ all_place)

-- a covered build has the row's binary at its place, and the row has the binary's architecture
pub record IsBuilt (archs : List Text) (s : Covered) (row : RowIn) : Type 0 where
  pub binaries : List Binary
  pub build : Contains s (record { sender = row.sender; number = row.number; item = Build binaries })
  pub placed : binary_in binaries row.place ≡ Some row.binary
  pub known : IsArchPlace archs row.arch
  pub arch : arch_name archs row.arch ≡ row.binary.architecture

-- covered messages give everything that one testing has and an earlier one hadn't
pub record IsGivenBy (archs : List Text) (s : Covered) (old new : Suite) : Type 0 where
  pub sources : (source : SourceIn) → Contains new.sources source → Contains old.sources source ⊎ IsUploaded s source
  pub rows : (row : RowIn) → Contains new.rows row → Contains old.rows row ⊎ IsBuilt archs s row

-- the rows are of listed architectures and of `all`
pub record KnowsArchs (archs : List Text) (rows : List RowIn) : Type 0 where
  pub each : (row : RowIn) → Contains rows row → IsArchPlace archs row.arch

-- covered messages give everything that a run brings into testing, if each architecture's place is below that of `all`
abbrev pub UpdateIsGiven : Type 0
UpdateIsGiven =
    (archs : List Text) (s : Covered) (excuses : List Excuse) (old : Suite) → length archs ≤ most_archs → IsGivenBy archs s old (update_of archs s excuses old).suite

-- no row of an unlisted architecture comes
abbrev pub ArchsStayKnown : Type 0
ArchsStayKnown =
    (archs : List Text) (s : Covered) (excuses : List Excuse) (old : Suite) → length archs ≤ most_archs
    → KnowsArchs archs old.rows → KnowsArchs archs (update_of archs s excuses old).suite.rows
