-- What a run brings in behind a check.
use Rattle.std.specs.Prelude.{◌≡◌, ℕ, true, List, Contains, filter, Option, None, Some, IfSome, option_map}
use Rattle.std.proofs.Common.{subst, inl, inr}
use Rattle.std.proofs.lemmas.List.Folds.{Any-from_list_any}
use Rattle.std.proofs.lemmas.Slice.Eq.{bytes_eq-Decides}
use Rattle.archive_plan.specs.declared.items.Item.{Item}
use Rattle.archive_plan.specs.declared.sync.Due.{Due}
use Rattle.archive_plan.specs.Sync.{is_package}
use Rattle.testing_rules_items.specs.Archs.{IsArchs}
use Rattle.testing_rules_items.specs.Words.{Text, is_same_version}
use Rattle.testing_rules_model.specs.declared.suite.RowIn.{RowIn}
use Rattle.testing_rules_model.specs.declared.suite.SourceIn.{SourceIn}
use Rattle.testing_rules_model.specs.Covered.{Covered}
use Rattle.testing_rules_model.specs.Excuses.{has_current}
use Rattle.testing_rules_model.specs.Moves.{as_source}
use Rattle.testing_rules_model.specs.Suite.{Suite}
use Rattle.testing_rules_model.specs.Unstable.{is_current, is_of_source, unstable_rows, unstable_sources}
use Rattle.testing_rules_model.proofs.Least.{from_filter}
use Rattle.testing_rules_model.proofs.MoreMail.{both_are}
use Rattle.testing_rules_model.proofs.Sets.{mapped_from}
use Rattle.office_core_laws.specs.Checked.{HasPackages, IsBuiltThere, IsChecked, IsFromIndex, IsThere, Marks, archive_item}
use Rattle.office_core_laws.specs.FromUnstable.{IsFromUnstable, built_sources, package_item}
use Rattle.office_core_laws.proofs.CheckedItems.{told_is_there}
use Rattle.office_core_laws.proofs.UnstableItems.{row_package}

-- a package at a version, and the item of an archive for which it stands
abbrev item_at : RowIn → Text → Item
item_at r version = record { architecture = r.binary.architecture; name = r.binary.name; version = version }

abbrev item_of : RowIn → Option Text → Option Item
item_of r o = option_map (λ (version : Text). item_at r version) o

module _ (archs : List Text) (s : Covered) (marks : Marks) (told index dropped : List Item) (gone : ℕ) (due : Due) (are : IsArchs archs) (has : HasPackages marks told (unstable_rows archs s)) (checked : IsChecked told index dropped gone due) where
  item_there : (r : RowIn) → is_package (package_item r) ≡ true → (o : Option Text) → IfSome (item_of r o) (λ (x : Item). Contains told x) → IfSome (item_of r o) (λ (x : Item). IsThere index due x)
  item_there r binary None was = tt
  item_there r binary (Some v) was = told_is_there told index dropped gone due (item_at r v) checked was binary

  row_there : (r : RowIn) → Contains (unstable_rows archs s) r → IfSome (archive_item marks r) (λ (x : Item). IsThere index due x)
  row_there r c = item_there r (row_package archs s r are c) (marks r) (has r c)

  source_there : (x : SourceIn) → Contains (built_sources archs s) x → IsBuiltThere marks index due x
  source_there x c =
      let m = mapped_from as_source (filter (has_current (unstable_rows archs s)) (unstable_sources s)) x c in
      let f = from_filter (has_current (unstable_rows archs s)) (unstable_sources s) m.0 m.1 in
      let a = Any-from_list_any (is_current m.0) (unstable_rows archs s) f.1 in
      let t = both_are (is_of_source m.0 a.1) (is_same_version a.1.binary.source_version m.0.version) a.4 in
      subst (IsBuiltThere marks index due) m.2 (record {
        row = a.1;
        source = (bytes_eq-Decides a.1.binary.source m.0.source).0 t.0;
        version = t.1;
        there = row_there a.1 (a.0, a.2, a.3);
      })

  pub comes_from_index : (old new : Suite) → IsFromUnstable archs s old new → IsFromIndex marks index due old new
  comes_from_index old new from = record {
    rows = λ r c. elim (from.rows r c) [ inl was ↦ inl was | inr came ↦ inr (row_there r came) ];
    sources = λ x c. elim (from.sources x c) [ inl was ↦ inl was | inr came ↦ inr (source_there x came) ];
  }
