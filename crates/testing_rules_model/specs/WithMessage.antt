-- The lists of facts with one more message.
use Rattle.std.specs.Prelude.{Bool, ◌&&◌, ◌||◌, not, if◌then◌else◌, List, [], ◌∷◌, filter, Option}
use Rattle.std.specs.Str.{bytes_eq}
use Rattle.std.specs.declared.cmp.Ordering.{Ordering}
use Rattle.std.specs.declared.cmp.Ordering.TheVariants.{Less, Equal, Greater}
use Rattle.std.specs.Ordering.{nat_cmp, is_lt}
use Rattle.testing_rules_model.specs.declared.facts.UploadIn.{UploadIn}
use Rattle.testing_rules_model.specs.declared.facts.BuildIn.{BuildIn}
use Rattle.testing_rules_model.specs.declared.facts.DropIn.{DropIn}
use Rattle.testing_rules_model.specs.declared.facts.BugIn.{BugIn}
use Rattle.testing_rules_model.specs.declared.facts.HintIn.{HintIn}
use Rattle.testing_rules_model.specs.declared.facts.UnhintIn.{UnhintIn}
use Rattle.testing_rules_model.specs.declared.facts.DelaysIn.{DelaysIn}
use Rattle.testing_rules_items.specs.Words.{byte_cmp, is_above, lesser, put_by}
use Rattle.testing_rules_model.specs.Unstable.{upload_order, build_order, pair_order, pair_of, drop_order, drop_pair, bug_order, hint_order, unhint_order, delays_order}

-- the element put in its place in a list ordered by keys; of two with the same key the first by rank stays, the new one
-- in a tie
abbrev pub put_first : {A K : Type 0} → (A → K) → (K → K → Ordering) → (A → A → Ordering) → A → List A → List A
put_first key cmp rank x [] = x ∷ []
put_first key cmp rank x (y ∷ ys) =
    elim (cmp (key x) (key y)) [ Less ↦ x ∷ y ∷ ys | Equal ↦ (if is_lt (rank y x) then y else x) ∷ ys | Greater ↦ y ∷ put_first key cmp rank x ys ]

-- unstable's sources with one more upload
abbrev pub with_upload : UploadIn → List UploadIn → List UploadIn
with_upload = put_first (λ u. u.source) byte_cmp upload_order

-- unstable's rows with one more build
abbrev pub with_build : BuildIn → List BuildIn → List BuildIn
with_build = put_first pair_of pair_order build_order

-- the greatest drops with one more drop
abbrev pub with_greatest : DropIn → List DropIn → List DropIn
with_greatest = put_first drop_pair pair_order drop_order

-- the states of bugs with one more message
abbrev pub with_bug : BugIn → List BugIn → List BugIn
with_bug = put_first (λ b. b.bug) nat_cmp bug_order

-- the hints with one more hint
abbrev pub with_hint : HintIn → List HintIn → List HintIn
with_hint = put_by (λ h. h) hint_order

-- the unhints with one more unhint
abbrev pub with_unhint : UnhintIn → List UnhintIn → List UnhintIn
with_unhint = put_by (λ c. c) unhint_order

-- the last of two messages on delays
abbrev pub with_delays : DelaysIn → Option DelaysIn → Option DelaysIn
with_delays = lesser delays_order

-- the build outlives the drop: it has another architecture or name, or a greater version
abbrev pub outlives : DropIn → BuildIn → Bool
outlives d b = not (bytes_eq d.arch b.binary.architecture && bytes_eq d.name b.binary.name) || is_above b.binary.version d.version

-- rows with one more drop
abbrev pub with_drop : DropIn → List BuildIn → List BuildIn
with_drop d rows = filter (outlives d) rows

-- rows with those builds of one message that pass
abbrev pub with_builds : (BuildIn → Bool) → List BuildIn → List BuildIn → List BuildIn
with_builds stands [] rows = rows
with_builds stands (b ∷ bs) rows = if stands b then with_build b (with_builds stands bs rows) else with_builds stands bs rows
