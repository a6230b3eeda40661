-- What every change of testing keeps, a run keeps; and so it leaves every watched row installable.
use Rattle.std.specs.Prelude.{ℕ, zero, suc, Bool, true, false, not, List, [], ◌∷◌, ◌++◌, Option, Some, None, map, filter, find, length}
use Rattle.std.specs.List.{flat_map, before_first, after_first}
use Rattle.std.specs.Option.{is_none}
use Rattle.std.proofs.Common.{◌≡◌, refl}
use Rattle.std.proofs.lemmas.Bool.{false≢true}
use Rattle.testing_rules_model.specs.declared.facts.UploadIn.{UploadIn}
use Rattle.testing_rules_model.specs.declared.facts.HintIn.{HintIn}
use Rattle.testing_rules_model.specs.declared.facts.UnhintIn.{UnhintIn}
use Rattle.testing_rules_model.specs.declared.suite.RowIn.{RowIn}
use Rattle.testing_rules_model.specs.declared.excuse.Excuse.{Excuse}
use Rattle.testing_rules_items.specs.declared.item.Hint.{Hint}
use Rattle.testing_rules_items.specs.declared.item.Hint.TheVariants.{Block, BlockAll, Unblock, Easy, AgeDays, Remove}
use Rattle.testing_rules_items.specs.declared.item.HintItem.{HintItem}
use Rattle.testing_rules_model.specs.declared.update.Decision.TheVariants.{RemoveDone, RemoveRefused, EasyDone, EasyRefused, EasyNotCandidate}
use Rattle.testing_rules_model.specs.declared.update.Offender.{Offender}
use Rattle.testing_rules_model.specs.Suite.{Suite}
use Rattle.testing_rules_items.specs.Words.{Text, is_same_version}
use Rattle.testing_rules_model.specs.Excuses.{testing_version}
use Rattle.testing_rules_model.specs.Unstable.{is_in_force}
use Rattle.testing_rules_model.specs.steps.LentItems.{as_moved}
use Rattle.testing_rules_model.specs.Moves.{group_sources, move_group, remove_source, offender_of}
use Rattle.testing_rules_model.specs.Updates.{Outcome, decide, nothing, in_turn, removals_of, remove_version, remove_item, is_candidate, is_in_testing, move_as_one, move_items, move_easy, moved_alone, offender_alone, single_moves, remaining, update_by}
use Rattle.testing_rules_model.specs.steps.Updates.{is_allowed_alone, accepted}
use Rattle.testing_rules_model.specs.Watched.{AllWatchedWork}
use Rattle.testing_rules_model.proofs.Watching.{group-works, removal-works, found_passes}

-- a step after which testing is as it should be, where it was so before
abbrev Keeps : (Suite → Type 0) → (Suite → Outcome) → Type 0
Keeps Holds step = (t : Suite) → Holds t → Holds (step t).suite

in_turn-keeps : {A : Type 0} (Holds : Suite → Type 0) (step : A → Suite → Outcome) → ((x : A) → Keeps Holds (step x)) → (xs : List A) → Keeps Holds (in_turn step xs)
in_turn-keeps Holds step keeps [] t h = h
in_turn-keeps Holds step keeps (x ∷ xs) t h = in_turn-keeps Holds step keeps xs (step x t).suite (keeps x t h)

-- removals that are allowed keep it
abbrev pub RemovalsKeep : (Suite → Type 0) → List Text → Type 0
RemovalsKeep Holds archs =
    (name : Text) (t : Suite) → offender_of archs t.rows (remove_source name t).rows [] ≡ None → Holds t → Holds (remove_source name t)

-- and so do moves
abbrev pub MovesKeep : (Suite → Type 0) → List Text → List UploadIn → List RowIn → Type 0
MovesKeep Holds archs sources rows =
    (group : List Text) (t : Suite) → offender_of archs t.rows (move_group sources rows group t).rows group ≡ None → Holds t → Holds (move_group sources rows group t)

module _ (Holds : Suite → Type 0) (archs : List Text) (removals-keep : RemovalsKeep Holds archs) where
  -- Removals.

  remove_at : (number : ℕ) (name v : Text) (t : Suite) (m : Option Offender) → offender_of archs t.rows (remove_source name t).rows [] ≡ m → Holds t
      → (let p : Outcome = elim m [ None ↦ decide (RemoveDone number name v) (remove_source name t) | Some o ↦ decide (RemoveRefused number name v o) t ] in Holds p.suite)
  remove_at number name v t None e h = removals-keep name t e h
  remove_at number name v t (Some o) e h = h

  version-keeps : (number : ℕ) (name v : Text) → Keeps Holds (remove_version archs number name v)
  version-keeps number name v t h = remove_at number name v t (offender_of archs t.rows (remove_source name t).rows []) refl h

  same_at : (number : ℕ) (name v : Text) (t : Suite) (b : Bool) → Holds t
      → (let p : Outcome = elim b [ true ↦ remove_version archs number name v t | false ↦ nothing t ] in Holds p.suite)
  same_at number name v t true h = version-keeps number name v t h
  same_at number name v t false h = h

  item_at : (number : ℕ) (i : HintItem) (t : Suite) (m : Option Text) → Holds t
      → (let p : Outcome = elim m [ None ↦ nothing t | Some v ↦ elim (is_same_version v i.version) [ true ↦ remove_version archs number i.name v t | false ↦ nothing t ] ] in Holds p.suite)
  item_at number i t None h = h
  item_at number i t (Some v) h = same_at number i.name v t (is_same_version v i.version) h

  item-keeps : (x : ℕ × HintItem) → Keeps Holds (remove_item archs x)
  item-keeps (number, i) t h = item_at number i t (testing_version t i.name) h

  module _ (sources : List UploadIn) (rows : List RowIn) (moves-keep : MovesKeep Holds archs sources rows) where
    -- Groups.

    group_at : (number : ℕ) (group : List Text) (t : Suite) (m : Option Offender) → offender_of archs t.rows (move_group sources rows group t).rows group ≡ m → Holds t
        → (let p : Outcome = elim m [ None ↦ decide (EasyDone number (map as_moved (group_sources sources group))) (move_group sources rows group t) | Some o ↦ decide (EasyRefused number o) t ] in Holds p.suite)
    group_at number group t None e h = moves-keep group t e h
    group_at number group t (Some o) e h = h

    group-keeps : (number : ℕ) (group : List Text) → Keeps Holds (move_as_one archs sources rows number group)
    group-keeps number group t h = group_at number group t (offender_of archs t.rows (move_group sources rows group t).rows group) refl h

    module _ (excuses : List Excuse) where
      items_at : (number : ℕ) (items : List HintItem) (t : Suite) (m : Option HintItem) → Holds t
          → (let p : Outcome = elim m [ None ↦ move_as_one archs sources rows number (map (λ j. j.name) items) t | Some j ↦ decide (EasyNotCandidate number j.name j.version) t ] in Holds p.suite)
      items_at number items t None h = group-keeps number (map (λ j. j.name) items) t h
      items_at number items t (Some j) h = h

      items-keeps : (number : ℕ) (items : List HintItem) → Keeps Holds (move_items archs sources rows excuses number items)
      items-keeps number [] t h = h
      items-keeps number (i ∷ is) t h = items_at number (i ∷ is) t (find (λ (j : HintItem). not (is_candidate excuses j.name j.version)) (i ∷ is)) h

      easy_at : (number : ℕ) (hint : Hint) (t : Suite) → Holds t
          → (let p : Outcome = elim hint [ Easy items ↦ move_items archs sources rows excuses number (filter (λ i. not (is_in_testing t i.name i.version)) items) t | _ ↦ nothing t ] in Holds p.suite)
      easy_at number (Easy items) t h = items-keeps number (filter (λ (i : HintItem). not (is_in_testing t i.name i.version)) items) t h
      easy_at number (Block names) t h = h
      easy_at number BlockAll t h = h
      easy_at number (Unblock items) t h = h
      easy_at number (AgeDays n items) t h = h
      easy_at number (Remove items) t h = h

      easy-keeps : (x : HintIn) → Keeps Holds (move_easy archs sources rows excuses x)
      easy-keeps x t h = easy_at x.number x.hint t h

    -- Single moves.

    no_offender : (m : Option Offender) → is_none m ≡ true → m ≡ None
    no_offender None e = refl
    no_offender (Some o) e = absurd (false≢true e)

    alone-keeps : (t : Suite) (e : Excuse) → is_allowed_alone archs sources rows t e ≡ true → Holds t → Holds (moved_alone sources rows t e)
    alone-keeps t e passes h = moves-keep (e.source ∷ []) t (no_offender (offender_alone archs sources rows t e) passes) h

    single_at : (n : ℕ) (es : List Excuse) (t : Suite) (m : Option Excuse) → find (is_allowed_alone archs sources rows t) es ≡ m
        → ((xs : List Excuse) → Keeps Holds (single_moves archs sources rows n xs)) → Holds t
        → (let p : Outcome = elim m [
          | None ↦ nothing t
          | Some e ↦ let rest = single_moves archs sources rows n (after_first (is_allowed_alone archs sources rows t) es ++ before_first (is_allowed_alone archs sources rows t) es) (moved_alone sources rows t e) in
              record { decisions = accepted e ∷ rest.decisions; suite = rest.suite }
        ] in Holds p.suite)
    single_at n es t None e more h = h
    single_at n es t (Some x) e more h =
        more (after_first (is_allowed_alone archs sources rows t) es ++ before_first (is_allowed_alone archs sources rows t) es) (moved_alone sources rows t x)
        (alone-keeps t x (found_passes (is_allowed_alone archs sources rows t) es x e) h)

    singles-keep : (n : ℕ) (es : List Excuse) → Keeps Holds (single_moves archs sources rows n es)
    singles-keep zero es t h = h
    singles-keep (suc n) es t h = single_at n es t (find (is_allowed_alone archs sources rows t) es) refl (singles-keep n) h

    -- a whole run
    pub run-keeps : (hints : List HintIn) (unhints : List UnhintIn) (excuses : List Excuse) → Keeps Holds (update_by archs sources rows hints unhints excuses)
    run-keeps hints unhints excuses t h =
        let hints_in_force = filter (is_in_force unhints) hints in
        let removed = in_turn (remove_item archs) (flat_map removals_of hints_in_force) t in
        let grouped = in_turn (move_easy archs sources rows excuses) hints_in_force removed.suite in
        let es = remaining excuses grouped.suite in
        singles-keep (length es) es grouped.suite
        (in_turn-keeps Holds (move_easy archs sources rows excuses) (easy-keeps excuses) hints_in_force removed.suite
        (in_turn-keeps Holds (remove_item archs) item-keeps (flat_map removals_of hints_in_force) t h))

-- so every watched row stays installable
pub update-keeps : (archs : List Text) (sources : List UploadIn) (rows : List RowIn) (hints : List HintIn) (unhints : List UnhintIn) (excuses : List Excuse)
    → Keeps (λ t. AllWatchedWork archs t.rows) (update_by archs sources rows hints unhints excuses)
update-keeps archs sources rows = run-keeps (λ t. AllWatchedWork archs t.rows) archs (removal-works archs) sources rows (group-works archs sources rows)

-- no row is watched where there is none
pub none-works : (archs : List Text) → AllWatchedWork archs []
none-works archs arch below = tt
