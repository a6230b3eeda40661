-- Where the parts of a version are in its text, and the fault that the tests of a text give.
use Rattle.std.specs.Prelude.{◌≡◌, ℕ, ◌≤◌, Bool, ◌&&◌, not, if◌then◌else◌, List, [], ◌∷◌, length, take, drop, codes, Option}
use Rattle.std.specs.List.{list_all, before_last, after_last}
use Rattle.deb_version.specs.Text.{is_hyphen, has_epoch, epoch_text, epoch_of, has_revision, upstream_of, revision_of, is_epoch, is_upstream_byte, is_revision_byte, first_held}
use Rattle.deb_version.specs.declared.faults.VersionFault.{VersionFault}
use Rattle.deb_version.specs.declared.faults.VersionFault.TheVariants.{Empty, TooLong, BadEpoch, EmptyUpstream, EmptyRevision, BadCharacter}

-- the text after an upstream version is a hyphen and the revision, or empty: then the revision is `0`
abbrev pub revision_behind : List ℕ → List ℕ
revision_behind [] = codes "0"
revision_behind (hyphen ∷ revision) = revision

-- the text has this epoch, and its upstream version begins at start and has len bytes
pub record IsSplit (text : List ℕ) (epoch start len : ℕ) : Type 0 where
  pub epoch_is : epoch ≡ epoch_of text
  pub start_within : start ≤ length text
  pub len_within : len ≤ length (drop start text)
  pub upstream_is : take len (drop start text) ≡ upstream_of text
  pub revision_is : revision_behind (drop len (drop start text)) ≡ revision_of text

-- the upstream version: the text before the last hyphen, or all of it without a hyphen
abbrev pub upstream_in : List ℕ → List ℕ
upstream_in rest = if has_revision rest then before_last is_hyphen rest else rest

-- the revision: the text after the last hyphen, or `0` without a hyphen (deb-version(7))
abbrev pub revision_in : List ℕ → List ℕ
revision_in rest = if has_revision rest then after_last is_hyphen rest else codes "0"

-- the text has an epoch that isn't valid
abbrev pub has_bad_epoch : List ℕ → Bool
has_bad_epoch text = has_epoch text && not (is_epoch (epoch_text text))

-- the upstream version or the revision contains a byte that isn't allowed in it
abbrev pub has_bad_byte : List ℕ → List ℕ → Bool
has_bad_byte upstream revision = not (list_all is_upstream_byte upstream && list_all is_revision_byte revision)

-- the fault of a text by the results of its tests, in their order
unfoldable pub first_fault : Bool → Bool → Bool → Bool → Bool → Bool → Option VersionFault
first_fault empty too_long bad_epoch empty_upstream empty_revision bad_byte =
    first_held ((empty, Empty) ∷ (too_long, TooLong) ∷ (bad_epoch, BadEpoch) ∷ (empty_upstream, EmptyUpstream)
    ∷ (empty_revision, EmptyRevision) ∷ (bad_byte, BadCharacter) ∷ [])
