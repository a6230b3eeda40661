-- Why a run refuses hints, in lines (Debian Developer's Reference 5.13.2.3; removals as britney2's `remove`). That they
-- are printed, and in which form, is decided by this office.
use Rattle.std.specs.Prelude.{◌≡◌, ◌⊎◌, ◌≤◌, ◌<◌, ℕ, Bool, true, false, ◌==◌, ◌&&◌, not, nat_lt, if◌then◌else◌, List, [], ◌∷◌, ◌++◌, codes, decimal, drop, length, map, filter, find, take, Option, None}
use Rattle.std.specs.List.{count_by, flat_map}
use Rattle.std.specs.Option.{option_map_or}
use Rattle.std.specs.Str.{bytes_eq}
use Rattle.testing_rules_items.specs.Words.{Text, is_same_version}
use Rattle.testing_rules_items.specs.declared.item.Hint.{Hint}
use Rattle.testing_rules_items.specs.declared.item.Hint.TheVariants.{Easy, Remove}
use Rattle.testing_rules_items.specs.declared.item.HintItem.{HintItem}
use Rattle.testing_rules_model.specs.declared.excuse.Excuse.{Excuse}
use Rattle.testing_rules_model.specs.declared.facts.HintIn.{HintIn}
use Rattle.testing_rules_model.specs.declared.facts.UnhintIn.{UnhintIn}
use Rattle.testing_rules_model.specs.declared.facts.UploadIn.{UploadIn}
use Rattle.testing_rules_model.specs.declared.suite.RowIn.{RowIn}
use Rattle.testing_rules_model.specs.declared.update.Decision.{Decision}
use Rattle.testing_rules_model.specs.declared.update.Decision.TheVariants.{RemoveRefused, EasyRefused}
use Rattle.testing_rules_model.specs.declared.update.Offender.{Offender}
use Rattle.testing_rules_model.specs.Moves.{move_group, offender_of, remove_source}
use Rattle.testing_rules_model.specs.Suite.{Suite}
use Rattle.testing_rules_model.specs.Unstable.{is_in_force}
use Rattle.testing_rules_model.specs.Updates.{in_turn, is_in_testing, move_easy, remove_item, removals_of, update_by}
use Rattle.testing_rules_refusals.specs.ToldChange.{IsToldMove, IsToldRemoval}
use Rattle.testing_rules_reports.specs.Reports.{offender_text, words}

-- A run whose hints are judged: unstable's sources and rows, the excuses, the hints and the unhints, and the testing
-- before the run. It reports on the hints of this sender after this number.
pub record Judged : Type 0 where
  pub sender : Text
  pub behind : ℕ
  pub archs : List Text
  pub sources : List UploadIn
  pub rows : List RowIn
  pub excuses : List Excuse
  pub hints : List HintIn
  pub unhints : List UnhintIn
  pub testing : Suite

-- the items of a hint that are to move as one
abbrev pub grouped_items : Hint → List HintItem
grouped_items (Easy items) = items
grouped_items _ = []

-- the items of a hint that are to be removed
abbrev pub removed_items : Hint → List HintItem
removed_items (Remove items) = items
removed_items _ = []

-- the first of the hints with this number
abbrev pub hint_at : List HintIn → ℕ → Option HintIn
hint_at hints number = find (λ h. h.number == number) hints

-- the items of a kind that it has, none where there is no such hint
abbrev pub items_at : (Hint → List HintItem) → List HintIn → ℕ → List HintItem
items_at items_of hints number = option_map_or (λ h. items_of h.hint) (hint_at hints number) []

-- the sources of items that testing doesn't have at their versions yet
abbrev pub group_left : Suite → List HintItem → List Text
group_left t items = map (λ i. i.name) (filter (λ i. not (is_in_testing t i.name i.version)) items)

-- the items before the first that passes
abbrev pub items_until : (HintItem → Bool) → List HintItem → List HintItem
items_until passes [] = []
items_until passes (i ∷ is) = if passes i then [] else i ∷ items_until passes is

-- the item is this version of this source
abbrev pub is_item : Text → Text → HintItem → Bool
is_item name version i = bytes_eq i.name name && is_same_version version i.version

-- the hints with smaller numbers
abbrev pub hints_before : Judged → ℕ → List HintIn
hints_before j number = filter (λ h. nat_lt h.number number) j.hints

-- testing after the removals by those of the hints that are in force (this office decides the order of turns)
abbrev pub behind_removals : Judged → List HintIn → Suite
behind_removals j hints = (in_turn (remove_item j.archs) (flat_map removals_of (filter (is_in_force j.unhints) hints)) j.testing).suite

-- testing at the turn of the numbered hint's group, after all removals and the groups of earlier hints; and the group
abbrev pub turn_of_group : Judged → ℕ → Suite
turn_of_group j number =
    (in_turn (move_easy j.archs j.sources j.rows j.excuses) (filter (is_in_force j.unhints) (hints_before j number)) (behind_removals j j.hints)).suite

abbrev pub group_at : Judged → ℕ → List Text
group_at j number = group_left (turn_of_group j number) (items_at grouped_items j.hints number)

-- testing at the turn of the removal of a source's version by the hint with the number: after the removals of the hints
-- before it, and the items before it in its own
abbrev pub turn_of_item : Judged → ℕ → Text → Text → Suite
turn_of_item j number name version =
    (in_turn (remove_item j.archs) (map (λ i. (number, i)) (items_until (is_item name version) (items_at removed_items j.hints number))) (behind_removals j (hints_before j number))).suite

-- the lines on why a group can't move as one over a testing, none if that breaks nothing
abbrev pub AreGroupLines : Judged → Suite → List Text → Text → Type 0
AreGroupLines j t group text =
    IsToldMove j.archs j.sources j.rows j.excuses t group text
    ⊎ ((offender_of j.archs t.rows (move_group j.sources j.rows group t).rows group ≡ None) × (text ≡ []))

-- and on why a source can't be removed
abbrev pub AreRemovalLines : Judged → Suite → Text → Text → Type 0
AreRemovalLines j t name text =
    IsToldRemoval j.archs j.sources j.rows j.excuses t name text
    ⊎ ((offender_of j.archs t.rows (remove_source name t).rows [] ≡ None) × (text ≡ []))

-- the line on a hint that is refused
abbrev pub refused_line : Judged → ℕ → Offender → Text
refused_line j number o = words (codes "refused" ∷ j.sender ∷ decimal number ∷ []) ++ offender_text j.archs o ++ 10 ∷ []

-- this text reports that a hint is refused, and then has the lines on why, by what these have to be
pub record IsRefusal (j : Judged) (number : ℕ) (o : Offender) (AreLines : Text → Type 0) (text : Text) : Type 0 where
  pub lines : Text
  pub why : AreLines lines
  pub is : text ≡ refused_line j number o ++ lines

-- it reports on such a hint, and on no other
abbrev pub IsRefusalWhere : Bool → Judged → ℕ → Offender → (Text → Type 0) → Text → Type 0
IsRefusalWhere true j number o AreLines text = IsRefusal j number o AreLines text
IsRefusalWhere false j number o AreLines text = text ≡ []

-- the text on a decision: on a group or a removal that is refused for what it would break
abbrev pub IsToldOf : Judged → Decision → Text → Type 0
IsToldOf j (RemoveRefused n name v o) text = IsRefusalWhere (nat_lt j.behind n) j n o (AreRemovalLines j (turn_of_item j n name v) name) text
IsToldOf j (EasyRefused n o) text = IsRefusalWhere (nat_lt j.behind n) j n o (AreGroupLines j (turn_of_group j n) (group_at j n)) text
IsToldOf j _ text = text ≡ []

-- a text of two parts
pub record IsJoined (IsFirst IsRest : Text → Type 0) (text : Text) : Type 0 where
  pub first : Text
  pub rest : Text
  pub first_is : IsFirst first
  pub rest_is : IsRest rest
  pub is : text ≡ first ++ rest

-- the text on decisions, one after another
abbrev pub AreToldOf : Judged → List Decision → Text → Type 0
AreToldOf j [] text = text ≡ []
AreToldOf j (d ∷ ds) text = IsJoined (IsToldOf j d) (AreToldOf j ds) text

-- a group or a removal that is refused, by a hint on which the run reports
abbrev pub is_reported : ℕ → Decision → Bool
is_reported behind (RemoveRefused n name v o) = nat_lt behind n
is_reported behind (EasyRefused n o) = nat_lt behind n
is_reported behind _ = false

-- the line on how many more are refused, if there are any
abbrev pub more_line : ℕ → Text
more_line more = if more == 0 then [] else codes "and " ++ decimal more ++ codes " more are refused" ++ 10 ∷ []

-- The text on decisions up to the third that is reported on, and then how many more there are: each takes about as long
-- to explain as a run to decide.
pub record AreFirstTold (j : Judged) (decisions : List Decision) (text : Text) : Type 0 where
  pub end : ℕ
  pub few : count_by (is_reported j.behind) (take end decisions) ≤ 3
  pub all : count_by (is_reported j.behind) (take end decisions) < 3 → end ≡ length decisions
  pub lines : Text
  pub told : AreToldOf j (take end decisions) lines
  pub is : text ≡ lines ++ more_line (count_by (is_reported j.behind) (drop end decisions))

-- the reasons of a run: the text on the first of what it decides
abbrev pub AreReasons : Judged → Text → Type 0
AreReasons j text = AreFirstTold j (update_by j.archs j.sources j.rows j.hints j.unhints j.excuses j.testing).decisions text
