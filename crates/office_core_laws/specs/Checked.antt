-- What the check of office-feed says of a run. Before an order it asks the office for its unstable, and compares that
-- with an archive's index (`tools/office_tools/from_packages/due.py`): nothing may be due to be dropped. A package that
-- bears a mark of `docs/ARCHIVE.md` stands for another version of the archive, or for none. That is for any such reading.
use Rattle.std.specs.Prelude.{◌≡◌, ◌⊎◌, ℕ, ◌+◌, ◌<◌, true, List, [], length, slice_index, Contains, Option, Some, IfSome, option_map}
use Rattle.deb_version.specs.Order.{IsAbove}
use Rattle.archive_plan.specs.declared.items.Item.{Item}
use Rattle.archive_plan.specs.declared.sync.Due.{Due}
use Rattle.archive_plan.specs.Items.{AreInOrder, AreOfOneKey}
use Rattle.archive_plan.specs.Sync.{IsAboveAll, IsSync}
use Rattle.testing_rules_items.specs.Words.{Text, is_same_version}
use Rattle.testing_rules_model.specs.declared.suite.RowIn.{RowIn}
use Rattle.testing_rules_model.specs.declared.suite.SourceIn.{SourceIn}
use Rattle.testing_rules_model.specs.Suite.{Suite}
use Rattle.office_mail.specs.declared.message.RunOrder.{RunOrder}
use Rattle.office_mail.specs.Kept.{Kept, Within}
use Rattle.office_mail.specs.Lists.{Lists}
use Rattle.office_mail.specs.Runs.{IsReady, order_at, runs}
use Rattle.office_store_keeper.specs.Provenance.{AreOwnTexts}
use Rattle.office_core_orders.specs.Ready.{HasPlaces}
use Rattle.office_core_facts.specs.Seen.{IsUnbroken}

-- for which version in the archive a package stands, if the archive has it
abbrev pub Marks : Type 0
Marks = RowIn → Option Text

-- no package bears a mark
abbrev pub without_marks : Marks
without_marks r = Some r.binary.version

-- the item of the archive for which a package stands
abbrev pub archive_item : Marks → RowIn → Option Item
archive_item marks r = option_map (λ (version : Text). record { architecture = r.binary.architecture; name = r.binary.name; version = version }) (marks r)

-- the list has all for which these packages stand
abbrev pub HasPackages : Marks → List Item → List RowIn → Type 0
HasPackages marks told rows = (r : RowIn) → Contains rows r → IfSome (archive_item marks r) (λ (x : Item). Contains told x)

-- the check passes: each key is told once, above all that was dropped of it, and nothing is due to be dropped
pub record IsChecked (told index dropped : List Item) (gone : ℕ) (due : Due) : Type 0 where
  pub once : AreInOrder told
  pub above : (x : Item) → Contains told x → IsAboveAll dropped x
  pub is : IsSync told index dropped gone due
  pub nothing : due.drops.items ≡ []

-- the index has it at that version, or above it a version that is still due to be told
abbrev pub IsThere : List Item → Due → Item → Type 0
IsThere index due x = Contains index x ⊎ ((y : Item) × Contains due.tells.items y × Contains index y × AreOfOneKey x y × IsAbove y.version x.version)

-- that for which a package of the source stands is there; it was built from this version
pub record IsBuiltThere (marks : Marks) (index : List Item) (due : Due) (x : SourceIn) : Type 0 where
  pub row : RowIn
  pub source : row.binary.source ≡ x.name
  pub version : is_same_version row.binary.source_version x.version ≡ true
  pub there : IfSome (archive_item marks row) (λ (y : Item). IsThere index due y)

-- each package that the new testing has was in the old one, or that for which it stands is there; and for each source
-- that came, of one package
pub record IsFromIndex (marks : Marks) (index : List Item) (due : Due) (old new : Suite) : Type 0 where
  pub rows : (r : RowIn) → Contains new.rows r → Contains old.rows r ⊎ IfSome (archive_item marks r) (λ (x : Item). IsThere index due x)
  pub sources : (x : SourceIn) → Contains new.sources x → Contains old.sources x ⊎ IsBuiltThere marks index due x

-- Run k is ready, and later mail has the order of run k + 1. It covers all that every sender but that of runs had sent
-- without a gap.
pub record IsOrdered (setup : Lists) (kept late : Kept) (k : ℕ) : Type 0 where
  pub ready : IsReady setup kept k
  pub within : Within kept late
  pub places : HasPlaces setup late
  pub own : AreOwnTexts setup late
  pub order : RunOrder
  pub ordered : order_at setup late (k + 1) ≡ Some order
  pub covers : (s : ℕ) → s < length setup.senders → (s ≡ runs setup → ⊥) → IsUnbroken kept s (slice_index order.covers s)
