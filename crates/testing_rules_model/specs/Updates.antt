-- The decisions of a run, and the resulting testing. Each move is tried against testing as the earlier ones left it
-- (Debian Developer's Reference 5.13.2). This office decides the order: removals, groups, then single moves in a
-- circle.
use Rattle.std.specs.Prelude.{◌≡◌, ℕ, zero, suc, Bool, true, false, ◌&&◌, not, List, [], ◌∷◌, ◌++◌, map, filter, find, length, Option, Some, None, option_map}
use Rattle.std.specs.List.{filter_map, flat_map, list_any, before_first, after_first}
use Rattle.std.specs.Option.{option_map_or, is_none}
use Rattle.std.specs.Str.{bytes_eq}
use Rattle.testing_rules_items.specs.declared.item.Hint.TheVariants.{Easy, Remove}
use Rattle.testing_rules_items.specs.declared.item.HintItem.{HintItem}
use Rattle.testing_rules_model.specs.declared.facts.HintIn.{HintIn}
use Rattle.testing_rules_model.specs.declared.facts.UnhintIn.{UnhintIn}
use Rattle.testing_rules_model.specs.declared.facts.UploadIn.{UploadIn}
use Rattle.testing_rules_model.specs.declared.suite.RowIn.{RowIn}
use Rattle.testing_rules_model.specs.declared.excuse.Excuse.{Excuse}
use Rattle.testing_rules_model.specs.declared.update.Offender.{Offender}
use Rattle.testing_rules_model.specs.declared.update.Decision.{Decision}
use Rattle.testing_rules_model.specs.declared.update.Decision.TheVariants.{RemoveDone, RemoveRefused, EasyDone, EasyNotCandidate, EasyRefused, Accept, Wait}
use Rattle.testing_rules_model.specs.Suite.{Suite}
use Rattle.testing_rules_items.specs.Words.{Text, is_same_version, is_empty}
use Rattle.testing_rules_model.specs.Covered.{Covered}
use Rattle.testing_rules_model.specs.Unstable.{unstable_sources, unstable_rows, hints_by_number, unhints_by_number, is_in_force}
use Rattle.testing_rules_model.specs.Excuses.{testing_version}
use Rattle.testing_rules_model.specs.Moves.{group_sources, move_group, remove_source, offender_of}

-- decisions, and the resulting testing
pub record Outcome : Type 0 where
  pub decisions : List Decision
  pub suite : Suite

-- one decision, with this testing as the result
abbrev pub decide : Decision → Suite → Outcome
decide d t = record { decisions = d ∷ []; suite = t }

-- no decision, and testing unchanged
abbrev pub nothing : Suite → Outcome
nothing t = record { decisions = []; suite = t }

-- some decisions, then those of one more step on the resulting testing
abbrev pub then_do : Outcome → (Suite → Outcome) → Outcome
then_do o step = record { decisions = o.decisions ++ (step o.suite).decisions; suite = (step o.suite).suite }

-- each of them in turn, on the testing that the earlier ones left
abbrev pub in_turn : {A : Type 0} → (A → Suite → Outcome) → List A → Suite → Outcome
in_turn step [] t = nothing t
in_turn step (x ∷ xs) t = then_do (step x t) (in_turn step xs)

-- testing has the source at this version
abbrev pub is_in_testing : Suite → Text → Text → Bool
is_in_testing t name v = option_map_or (is_same_version v) (testing_version t name) false

-- Removals, by hints named after britney2's `remove`.

-- the items of the remove hints in force, by number and then in the hint's order
abbrev pub removals_of : HintIn → List (ℕ × HintItem)
removals_of h = elim h.hint [ Remove items ↦ map (λ i. (h.number, i)) items | _ ↦ [] ]

-- removes testing's version v of a source, if nothing breaks
abbrev pub remove_version : List Text → ℕ → Text → Text → Suite → Outcome
remove_version archs number name v t =
    let new = remove_source name t in
    elim (offender_of archs t.rows new.rows []) [
      | None ↦ decide (RemoveDone number name v) new
      | Some o ↦ decide (RemoveRefused number name v o) t
    ]

-- a removal is judged if testing has the source at that version, else it does nothing
abbrev pub remove_item : List Text → ℕ × HintItem → Suite → Outcome
remove_item archs (number, i) t =
    elim (testing_version t i.name) [
      | None ↦ nothing t
      | Some v ↦ elim (is_same_version v i.version) [ true ↦ remove_version archs number i.name v t | false ↦ nothing t ]
    ]

-- Groups, by hints named after britney2's `easy`: for circular dependencies (Debian Developer's Reference 5.13.2.3).

-- the source is a candidate at this version: it has an excuse, and no reason keeps it out (Debian Developer's Reference 5.13.2)
abbrev pub is_candidate : List Excuse → Text → Text → Bool
is_candidate excuses name v = list_any (λ e. bytes_eq e.source name && is_empty e.reasons && is_same_version e.unstable v) excuses

-- moves a group as one, if nothing breaks
abbrev pub move_as_one : List Text → List UploadIn → List RowIn → ℕ → List Text → Suite → Outcome
move_as_one archs sources rows number group t =
    let new = move_group sources rows group t in
    elim (offender_of archs t.rows new.rows group) [
      | None ↦ decide (EasyDone number (map (λ u. record { name = u.source; version = u.version }) (group_sources sources group))) new
      | Some o ↦ decide (EasyRefused number o) t
    ]

-- moves the items that aren't in testing yet: without any it does nothing, and all must be candidates
abbrev pub move_items : List Text → List UploadIn → List RowIn → List Excuse → ℕ → List HintItem → Suite → Outcome
move_items archs sources rows excuses number [] t = nothing t
move_items archs sources rows excuses number (i ∷ is) t =
    elim (find (λ j. not (is_candidate excuses j.name j.version)) (i ∷ is)) [
      | None ↦ move_as_one archs sources rows number (map (λ j. j.name) (i ∷ is)) t
      | Some j ↦ decide (EasyNotCandidate number j.name j.version) t
    ]

-- an easy hint moves its items as one, except those that testing has at that version
abbrev pub move_easy : List Text → List UploadIn → List RowIn → List Excuse → HintIn → Suite → Outcome
move_easy archs sources rows excuses h t = elim h.hint [
  | Easy items ↦ move_items archs sources rows excuses h.number (filter (λ i. not (is_in_testing t i.name i.version)) items) t
  | _ ↦ nothing t
]

-- Single moves (Debian Developer's Reference 5.13.2).

-- the excuse's source is a candidate and hasn't moved
abbrev pub is_remaining : Suite → Excuse → Bool
is_remaining t e = is_empty e.reasons && not (is_in_testing t e.source e.unstable)

-- the candidates that haven't moved, by name
abbrev pub remaining : List Excuse → Suite → List Excuse
remaining excuses t = filter (is_remaining t) excuses

-- testing after the candidate moved alone
abbrev pub moved_alone : List UploadIn → List RowIn → Suite → Excuse → Suite
moved_alone sources rows t e = move_group sources rows (e.source ∷ []) t

-- the first row that moving the candidate alone would break
abbrev pub offender_alone : List Text → List UploadIn → List RowIn → Suite → Excuse → Option Offender
offender_alone archs sources rows t e = offender_of archs t.rows (moved_alone sources rows t e).rows (e.source ∷ [])

-- the first allowed candidate in circular order moves, and gets a line; the next round begins with those after it and
-- ends with those before it, until none is allowed (this office decides the order). There are at most n moves
abbrev pub single_moves : List Text → List UploadIn → List RowIn → ℕ → List Excuse → Suite → Outcome
single_moves archs sources rows zero es t = nothing t
single_moves archs sources rows (suc n) es t =
    let is_allowed : Excuse → Bool = λ e. is_none (offender_alone archs sources rows t e) in
    elim (find is_allowed es) [
      | None ↦ nothing t
      | Some e ↦ let rest = single_moves archs sources rows n (after_first is_allowed es ++ before_first is_allowed es) (moved_alone sources rows t e) in
          record { decisions = Accept e.source e.unstable ∷ rest.decisions; suite = rest.suite }
    ]

-- the single moves of the candidates that haven't moved, by name
abbrev pub move_singles : List Text → List UploadIn → List RowIn → List Excuse → Suite → Outcome
move_singles archs sources rows excuses t =
    let es = remaining excuses t in single_moves archs sources rows (length es) es t

-- the line of a candidate that waits, with the first row that moving it alone would break (this office decides it)
abbrev pub wait_for : List Text → List UploadIn → List RowIn → Suite → Excuse → Option Decision
wait_for archs sources rows t e = option_map (Wait e.source e.unstable) (offender_alone archs sources rows t e)

-- the remaining candidates wait
abbrev pub waits : List Text → List UploadIn → List RowIn → List Excuse → Suite → List Decision
waits archs sources rows excuses t = filter_map (wait_for archs sources rows t) (remaining excuses t)

-- removals, then groups, then single moves, and last the waiting candidates (this office decides the order), with these
-- unstable sources and rows
abbrev pub update_by : List Text → List UploadIn → List RowIn → List HintIn → List UnhintIn → List Excuse → Suite → Outcome
update_by archs sources rows hints unhints excuses t =
    let hints_in_force = filter (is_in_force unhints) hints in
    let removed = in_turn (remove_item archs) (flat_map removals_of hints_in_force) t in
    let grouped = in_turn (move_easy archs sources rows excuses) hints_in_force removed.suite in
    let single = move_singles archs sources rows excuses grouped.suite in
    record {
      decisions = removed.decisions ++ grouped.decisions ++ single.decisions ++ waits archs sources rows excuses single.suite;
      suite = single.suite;
    }

-- the decisions of a run over covered messages
abbrev pub update_of : List Text → Covered → List Excuse → Suite → Outcome
update_of archs s excuses t =
    update_by archs (unstable_sources s) (unstable_rows archs s) (hints_by_number s) (unhints_by_number s) excuses t

-- these are the run's decisions, and the resulting testing
abbrev pub IsUpdate : List Text → Covered → List Excuse → Suite → List Decision → Suite → Type 0
IsUpdate archs s excuses old decisions new =
    (decisions ≡ (update_of archs s excuses old).decisions) × (new ≡ (update_of archs s excuses old).suite)
