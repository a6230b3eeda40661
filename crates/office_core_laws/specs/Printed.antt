-- The lines of unstable that an office prints, in the words of items of an archive.
use Rattle.std.specs.Prelude.{ℕ, List, [], ◌∷◌, ◌++◌, codes, decimal, flat_map}
use Rattle.archive_plan.specs.declared.items.Item.{Item}
use Rattle.testing_rules_items.specs.Words.{Text}
use Rattle.testing_rules_model.specs.declared.suite.RowIn.{RowIn}
use Rattle.testing_rules_model.specs.declared.facts.UploadIn.{UploadIn}
use Rattle.testing_rules_model.specs.Covered.{Covered}
use Rattle.testing_rules_model.specs.Unstable.{unstable_rows, unstable_sources}
use Rattle.testing_rules_reports.specs.Reports.{line}
use Rattle.office_core_laws.specs.FromUnstable.{package_item}

-- a package's line has its item's words, and its source
abbrev pub package_line : RowIn → Text
package_line r =
    let x : Item = package_item r in
    line (codes "binary" ∷ x.architecture ∷ x.name ∷ x.version ∷ r.binary.source ∷ [])

-- a source's line has its name and its version
abbrev pub upload_line : UploadIn → Text
upload_line u = line (codes "source" ∷ u.source ∷ u.version ∷ [])

-- the number of finished runs, each source of unstable, and each package of it
abbrev pub items_text : List Text → ℕ → Covered → Text
items_text archs finished s =
    line (codes "unstable" ∷ decimal finished ∷ []) ++ flat_map upload_line (unstable_sources s) ++ flat_map package_line (unstable_rows archs s)
