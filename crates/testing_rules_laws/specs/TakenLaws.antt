-- Laws of one more message: among what is chosen by key, it changes at most the entry of its own key.
use Rattle.std.specs.Prelude.{◌≡◌, List, ◌∷◌, Some}
use Rattle.std.specs.List.{list_all}
use Rattle.deb_control.specs.declared.binary.Binary.{Binary}
use Rattle.testing_rules_items.specs.declared.item.Item.TheVariants.{Build, Dropped}
use Rattle.testing_rules_model.specs.declared.facts.UploadIn.{UploadIn}
use Rattle.testing_rules_model.specs.declared.facts.BuildIn.{BuildIn}
use Rattle.testing_rules_model.specs.declared.facts.DropIn.{DropIn}
use Rattle.testing_rules_model.specs.declared.facts.BugIn.{BugIn}
use Rattle.testing_rules_model.specs.Covered.{Covered, CoveredItem, upload_of, drop_of, bug_of, placed_from}
use Rattle.testing_rules_model.specs.Unstable.{unstable_sources, unstable_builds, is_above_drops, greatest_drops, bug_states}
use Rattle.testing_rules_model.specs.WithMessage.{with_upload, with_builds, with_drop, with_greatest, with_bug, outlives}

-- an upload is put among unstable's sources if its source has no earlier one
abbrev pub UploadPutsOne : Type 0
UploadPutsOne = (s : Covered) (m : CoveredItem) (u : UploadIn) → upload_of m ≡ Some u → unstable_sources (m ∷ s) ≡ with_upload u (unstable_sources s)

-- a message on a bug is put among the states if the bug has no message with a greater number
abbrev pub BugPutsOne : Type 0
BugPutsOne = (s : Covered) (m : CoveredItem) (b : BugIn) → bug_of m ≡ Some b → bug_states (m ∷ s) ≡ with_bug b (bug_states s)

-- a drop is put among the greatest if its architecture and name have no earlier one
abbrev pub DropPutsOne : Type 0
DropPutsOne = (s : Covered) (m : CoveredItem) (d : DropIn) → drop_of m ≡ Some d → greatest_drops (m ∷ s) ≡ with_greatest d (greatest_drops s)

-- a build's binary is put among unstable's rows if it is above every drop of its own and no row of its own comes before
-- it
abbrev pub BuildPutsItsOwn : Type 0
BuildPutsItsOwn =
    (s : Covered) (m : CoveredItem) (bs : List Binary) → m.item ≡ Build bs
    → unstable_builds (m ∷ s) ≡ with_builds (is_above_drops s) (placed_from 1 m.sender m.number bs) (unstable_builds s)

-- a drop removes its own row from unstable's if that row isn't above it, and nothing else
abbrev pub DropTakesOne : Type 0
DropTakesOne = (s : Covered) (m : CoveredItem) (d : DropIn) → m.item ≡ Dropped d.name d.arch d.version → unstable_builds (m ∷ s) ≡ with_drop d (unstable_builds s)

-- the greatest drops decide for each build whether it is above every drop of its architecture and name
abbrev pub GreatestDropsDecide : Type 0
GreatestDropsDecide = (s : Covered) (b : BuildIn) → list_all (λ d. outlives d b) (greatest_drops s) ≡ is_above_drops s b
