-- Laws of the definitions, in the subject's words.
use Rattle.std.specs.Prelude.{◌≡◌, false, ◌&&◌, filter, Some}
use Rattle.std.specs.List.{AllByRecursion}
use Rattle.std.specs.Ordering.{is_lt}
use Rattle.std.specs.Str.{bytes_eq}
use Rattle.testing_rules_model.specs.declared.facts.UploadIn.{UploadIn}
use Rattle.testing_rules_model.specs.declared.facts.BuildIn.{BuildIn}
use Rattle.testing_rules_model.specs.declared.facts.DropIn.{DropIn}
use Rattle.testing_rules_items.specs.Words.{Text}
use Rattle.testing_rules_model.specs.Covered.{Covered, uploads_in, builds_in, drops_in}
use Rattle.testing_rules_model.specs.Moves.{source_in}
use Rattle.testing_rules_model.specs.Unstable.{upload_order, unstable_source, unstable_sources, build_order, unstable_row, is_build_of, is_above_drops, drop_order, is_drop_of, greatest_drop}

-- no upload with the name comes before the unstable source: none has a greater version, or the same version and a
-- smaller sender and number
abbrev pub UnstableSourceIsFirst : Type 0
UnstableSourceIsFirst =
    (s : Covered) (name : Text) (u : UploadIn) → unstable_source s name ≡ Some u
    → AllByRecursion (λ v. is_lt (upload_order v u) ≡ false) (filter (λ v. bytes_eq v.source name) (uploads_in s))

-- the source with a name among unstable's sources is the unstable source of that name
abbrev pub UnstableSourceIsFound : Type 0
UnstableSourceIsFound = (s : Covered) (name : Text) → source_in (unstable_sources s) name ≡ unstable_source s name

-- no build of the architecture and name that is above every drop comes before the unstable row
abbrev pub UnstableRowIsFirst : Type 0
UnstableRowIsFirst =
    (s : Covered) (arch name : Text) (b : BuildIn) → unstable_row s arch name ≡ Some b
    → AllByRecursion (λ v. is_lt (build_order v b) ≡ false) (filter (λ v. is_build_of arch name v && is_above_drops s v) (builds_in s))

-- no drop of the architecture and name comes before the greatest: none has a greater version, or the same version and a
-- smaller sender and number
abbrev pub GreatestDropIsFirst : Type 0
GreatestDropIsFirst =
    (s : Covered) (arch name : Text) (d : DropIn) → greatest_drop s arch name ≡ Some d
    → AllByRecursion (λ e. is_lt (drop_order e d) ≡ false) (filter (is_drop_of arch name) (drops_in s))
