-- The steps of loops that decide at each turn.
use Rattle.std.specs.Prelude.{ℕ, ◌+◌, ◌<◌, ◌≤◌, Bool, true, false, List, [], ◌∷◌, ◌++◌, Option, Some, None, length, drop, get_or, map, filter}
use Rattle.std.specs.List.{flat_map}
use Rattle.std.proofs.Common.{◌≡◌, refl, sym, ap, ◌∙◌, add-one, append_assoc, append-nil}
use Rattle.std.proofs.lemmas.List.{drop_all}
use Rattle.std.proofs.Math.Seq.{drop-cons}
use Rattle.testing_rules_model.specs.Suite.{Suite}
use Rattle.testing_rules_items.specs.Words.{Text}
use Rattle.testing_rules_model.specs.declared.facts.UploadIn.{UploadIn}
use Rattle.testing_rules_model.specs.declared.suite.RowIn.{RowIn}
use Rattle.std.specs.Borrow.{Bor}
use Rattle.std.specs.Prelude.{◌==◌, find, not}
use Rattle.std.proofs.lemmas.Bool.{false≢true}
use Rattle.testing_rules_items.specs.declared.item.HintItem.{HintItem}
use Rattle.testing_rules_model.specs.declared.excuse.Excuse.{Excuse}
use Rattle.testing_rules_moves.specs.steps.LentItems.{items_of}
use Rattle.testing_rules_model.specs.steps.LentItems.{as_moved}
use Rattle.testing_rules_model.specs.declared.update.Offender.{Offender}
use Rattle.testing_rules_model.specs.declared.update.Decision.TheVariants.{RemoveDone, RemoveRefused, EasyDone, EasyRefused, EasyNotCandidate}
use Rattle.testing_rules_model.specs.Moves.{offender_of, remove_source, group_sources, move_group}
use Rattle.testing_rules_model.specs.Updates.{Outcome, then_do, decide, nothing, in_turn, remove_version, move_as_one, move_items, is_candidate}

-- doing nothing more
pub then-nothing : (o : Outcome) → then_do o nothing ≡ o
then-nothing o = ap (λ ds. record { decisions = ds; suite = o.suite }) (append-nil o.decisions)

-- three in a row
pub then-then : (o : Outcome) (f g : Suite → Outcome) → then_do (then_do o f) g ≡ then_do o (λ t. then_do (f t) g)
then-then o f g =
    let p = f o.suite in
    let q = g p.suite in
    ap (λ ds. record { decisions = ds; suite = q.suite }) (append_assoc o.decisions p.decisions q.decisions)

module _ {A B : Type 0} (step : B → Suite → Outcome) (f : A → B) (xs : List A) (i : ℕ) where
  -- one turn of those from i on
  pub turn-next : (d : A) → i < length xs → (o : Outcome)
      → then_do (then_do o (step (f (get_or xs i d)))) (in_turn step (map f (drop (i + 1) xs))) ≡ then_do o (in_turn step (map f (drop i xs)))
  turn-next d below o =
      then-then o (step (f (get_or xs i d))) (in_turn step (map f (drop (i + 1) xs)))
      ∙ sym (rw (drop-cons xs i d below, add-one) refl)

  -- no turn is left
  pub turns-over : (o : Outcome) → length xs ≤ i → then_do o (in_turn step (map f (drop i xs))) ≡ o
  turns-over o h = rw (drop_all i xs h) (then-nothing o)

-- two lists, one after the other
pub in_turn-append : {B : Type 0} (step : B → Suite → Outcome) (xs ys : List B) (t : Suite) → in_turn step (xs ++ ys) t ≡ then_do (in_turn step xs t) (in_turn step ys)
in_turn-append step [] ys t = refl
in_turn-append step (x ∷ xs) ys t =
    let o = step x t in
    ap (λ (p : Outcome). record { decisions = o.decisions ++ p.decisions; suite = p.suite }) (in_turn-append step xs ys o.suite)
    ∙ sym (then-then o (in_turn step xs) (in_turn step ys))

module _ {A B : Type 0} (step : B → Suite → Outcome) (turns : A → List B) (test : A → Bool) (hs : List A) (i : ℕ) where
  -- the turns of one element that passes
  pub hint-next : (d : A) → i < length hs → test (get_or hs i d) ≡ true → (o : Outcome)
      → then_do (then_do o (in_turn step (turns (get_or hs i d)))) (in_turn step (flat_map turns (filter test (drop (i + 1) hs))))
      ≡ then_do o (in_turn step (flat_map turns (filter test (drop i hs))))
  hint-next d below e o =
      let now = turns (get_or hs i d) in
      let rest = flat_map turns (filter test (drop (i + 1) hs)) in
      let all : flat_map turns (filter test (drop i hs)) ≡ now ++ rest = rw (drop-cons hs i d below, e, add-one) refl in
      then-then o (in_turn step now) (in_turn step rest)
      ∙ ap (λ (p : Outcome). record { decisions = o.decisions ++ p.decisions; suite = p.suite }) (sym (in_turn-append step now rest o.suite))
      ∙ ap (λ bs. then_do o (in_turn step bs)) (sym all)

  -- one element that doesn't pass
  pub hint-skipped : (d : A) → i < length hs → test (get_or hs i d) ≡ false → (o : Outcome)
      → then_do o (in_turn step (flat_map turns (filter test (drop (i + 1) hs)))) ≡ then_do o (in_turn step (flat_map turns (filter test (drop i hs))))
  hint-skipped d below e o =
      let all : flat_map turns (filter test (drop i hs)) ≡ flat_map turns (filter test (drop (i + 1) hs)) = rw (drop-cons hs i d below, e, add-one) refl in
      ap (λ bs. then_do o (in_turn step bs)) (sym all)

  -- no turn is left
  pub hints-over : length hs ≤ i → (o : Outcome) → then_do o (in_turn step (flat_map turns (filter test (drop i hs)))) ≡ o
  hints-over h o = rw (drop_all i hs h) (then-nothing o)

module _ {A : Type 0} (step : A → Suite → Outcome) (test : A → Bool) (hs : List A) (i : ℕ) where
  -- the turn of one element that passes
  pub passing-next : (d : A) → i < length hs → test (get_or hs i d) ≡ true → (o : Outcome)
      → then_do (then_do o (step (get_or hs i d))) (in_turn step (filter test (drop (i + 1) hs))) ≡ then_do o (in_turn step (filter test (drop i hs)))
  passing-next d below e o =
      let rest = filter test (drop (i + 1) hs) in
      let all : filter test (drop i hs) ≡ get_or hs i d ∷ rest = rw (drop-cons hs i d below, e, add-one) refl in
      then-then o (step (get_or hs i d)) (in_turn step rest) ∙ ap (λ xs. then_do o (in_turn step xs)) (sym all)

  -- one element that doesn't pass
  pub passing-skipped : (d : A) → i < length hs → test (get_or hs i d) ≡ false → (o : Outcome)
      → then_do o (in_turn step (filter test (drop (i + 1) hs))) ≡ then_do o (in_turn step (filter test (drop i hs)))
  passing-skipped d below e o =
      let all : filter test (drop i hs) ≡ filter test (drop (i + 1) hs) = rw (drop-cons hs i d below, e, add-one) refl in
      ap (λ xs. then_do o (in_turn step xs)) (sym all)

  -- no turn is left
  pub passing-over : length hs ≤ i → (o : Outcome) → then_do o (in_turn step (filter test (drop i hs))) ≡ o
  passing-over h o = rw (drop_all i hs h) (then-nothing o)

module _ (archs : List Text) (sources : List UploadIn) (rows : List RowIn) (number : ℕ) where
  -- a group by what it would break
  abbrev by_offender : List Text → Suite → Option Offender → Outcome
  by_offender group t None = decide (EasyDone number (map as_moved (group_sources sources group))) (move_group sources rows group t)
  by_offender group t (Some o) = decide (EasyRefused number o) t

  as_by_offender : (group : List Text) (t : Suite) (m : Option Offender) → offender_of archs t.rows (move_group sources rows group t).rows group ≡ m
      → move_as_one archs sources rows number group t ≡ by_offender group t m
  as_by_offender group t None e = ap (λ (m : Option Offender). elim m [ None ↦ decide (EasyDone number (map as_moved (group_sources sources group))) (move_group sources rows group t) | Some p ↦ decide (EasyRefused number p) t ]) e
  as_by_offender group t (Some o) e = ap (λ (m : Option Offender). elim m [ None ↦ decide (EasyDone number (map as_moved (group_sources sources group))) (move_group sources rows group t) | Some p ↦ decide (EasyRefused number p) t ]) e

  -- a group that breaks a row is refused, and any other moves
  pub group-refused : (group : List Text) (o : Offender) (t : Suite) → offender_of archs t.rows (move_group sources rows group t).rows group ≡ Some o
      → move_as_one archs sources rows number group t ≡ decide (EasyRefused number o) t
  group-refused group o t e = as_by_offender group t (Some o) e

  pub group-moved : (group : List Text) (t : Suite) → offender_of archs t.rows (move_group sources rows group t).rows group ≡ None
      → move_as_one archs sources rows number group t ≡ decide (EasyDone number (map as_moved (group_sources sources group))) (move_group sources rows group t)
  group-moved group t e = as_by_offender group t None e

  -- items that are all candidates move as one
  pub items-as_one : (excuses : List Excuse) (t : Suite) (items : List (Bor HintItem)) → (length items == 0) ≡ false
      → find (λ (j : HintItem). not (is_candidate excuses j.name j.version)) (items_of items) ≡ None
      → move_items archs sources rows excuses number (items_of items) t ≡ move_as_one archs sources rows number (map (λ (j : HintItem). j.name) (items_of items)) t
  items-as_one excuses t [] h e = absurd (false≢true (sym h))
  items-as_one excuses t (b ∷ items) h e =
      let by_find : Option HintItem → Outcome = λ m. elim m [
        | None ↦ move_as_one archs sources rows number (map (λ (j : HintItem). j.name) (items_of (b ∷ items))) t
        | Some j ↦ decide (EasyNotCandidate number j.name j.version) t
      ] in
      ap by_find e

-- a removal that breaks a row is refused
pub remove_version-refused : (archs : List Text) (number : ℕ) (name v : Text) (o : Offender) (t : Suite) → offender_of archs t.rows (remove_source name t).rows [] ≡ Some o
    → remove_version archs number name v t ≡ decide (RemoveRefused number name v o) t
remove_version-refused archs number name v o t e =
    let by_offender : Option Offender → Outcome = λ m. elim m [ None ↦ decide (RemoveDone number name v) (remove_source name t) | Some p ↦ decide (RemoveRefused number name v p) t ] in
    ap by_offender e
