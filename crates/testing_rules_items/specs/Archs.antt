-- The architectures of an office.
use Rattle.std.specs.Prelude.{◌≡◌, ◌≤◌, Bool, true, not, ◌&&◌, ◌||◌, nat_le, if◌then◌else◌, List, length, codes, Result, Ok, Err}
use Rattle.std.specs.List.{list_all}
use Rattle.std.specs.Str.{bytes_eq}
use Rattle.deb_control.specs.Binary.{is_architecture}
use Rattle.testing_rules_items.specs.Words.{Text, most_archs}
use Rattle.testing_rules_items.specs.Distinct.{is_distinct}
use Rattle.testing_rules_items.specs.declared.archs.ArchsFault.{ArchsFault}
use Rattle.testing_rules_items.specs.declared.archs.ArchsFault.TheVariants.{BadArchitecture, TooMany, NoMemory}

-- architecture words that mean several architectures, or sources (Debian Policy 5.6.8)
abbrev pub is_reserved : Text → Bool
is_reserved name = bytes_eq name (codes "all") || bytes_eq name (codes "any") || bytes_eq name (codes "source")

-- the name of one architecture
abbrev pub is_arch_name : Text → Bool
is_arch_name name = is_architecture name && not (is_reserved name)

-- the architectures that an office decides for: 1 to 16 different names
pub record IsArchs (names : List Text) : Type 0 where
  pub some : 1 ≤ length names
  pub few : length names ≤ most_archs
  pub named : list_all is_arch_name names ≡ true
  pub distinct : is_distinct names ≡ true

-- architectures: at least one, each with a valid name, all different
unfoldable pub are_archs : List Text → Bool
are_archs names = nat_le 1 (length names) && list_all is_arch_name names && is_distinct names

-- the architectures of these names, or the first fault
unfoldable pub archs_of : List Text → Result (List Text) ArchsFault
archs_of names =
    if are_archs names then if nat_le (length names) most_archs then Ok names else Err TooMany
    else Err BadArchitecture

-- the result is the correct one, or for valid architectures possibly that memory ran out
abbrev pub GivesArchs : Result (List Text) ArchsFault → List Text → Type 0
GivesArchs (Ok archs) names = archs_of names ≡ Ok archs
GivesArchs (Err BadArchitecture) names = archs_of names ≡ Err BadArchitecture
GivesArchs (Err TooMany) names = archs_of names ≡ Err TooMany
GivesArchs (Err NoMemory) names = archs_of names ≡ Ok names
