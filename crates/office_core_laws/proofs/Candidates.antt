-- What removals and moves of candidates keep, a run keeps.
use Rattle.std.specs.Prelude.{ℕ, zero, suc, ◌&&◌, ◌||◌, ◌<◌, Bool, true, false, not, cond, List, [], ◌∷◌, ◌++◌, Contains, Option, Some, None, get_or, is_some, map, filter, find, length}
use Rattle.std.specs.List.{AllByRecursion, list_any, flat_map, before_first, after_first, position_or_len}
use Rattle.std.specs.Str.{bytes_eq}
use Rattle.std.proofs.Common.{◌≡◌, refl, sym, ap, ◌∙◌, subst, arith, ⊎_elim}
use Rattle.std.proofs.lemmas.Bool.{false≢true, cases_lt}
use Rattle.std.proofs.lemmas.List.Folds.{find_at}
use Rattle.std.proofs.lemmas.List.Sums.{split_at_first}
use Rattle.std.proofs.lemmas.Option.{same_Some, slice_get-get_or, slice_get_past}
use Rattle.std.proofs.lemmas.Slice.Eq.{bytes_eq-Decides}
use Rattle.testing_rules_items.specs.declared.item.Hint.{Hint}
use Rattle.testing_rules_items.specs.declared.item.Hint.TheVariants.{Block, BlockAll, Unblock, Easy, AgeDays, Remove}
use Rattle.testing_rules_items.specs.declared.item.HintItem.{HintItem}
use Rattle.testing_rules_items.specs.Words.{Text, is_same_version, is_empty}
use Rattle.testing_rules_items.proofs.Each.{each-append}
use Rattle.testing_rules_items.proofs.Members.{head_of, tail_of}
use Rattle.testing_rules_model.specs.declared.excuse.Excuse.{Excuse}
use Rattle.testing_rules_model.specs.declared.facts.HintIn.{HintIn}
use Rattle.testing_rules_model.specs.declared.facts.UnhintIn.{UnhintIn}
use Rattle.testing_rules_model.specs.declared.facts.UploadIn.{UploadIn}
use Rattle.testing_rules_model.specs.declared.suite.RowIn.{RowIn}
use Rattle.testing_rules_model.specs.declared.update.Decision.TheVariants.{RemoveDone, RemoveRefused, EasyDone, EasyRefused, EasyNotCandidate}
use Rattle.testing_rules_model.specs.declared.update.Offender.{Offender}
use Rattle.testing_rules_model.specs.Excuses.{testing_version}
use Rattle.testing_rules_model.specs.steps.LentItems.{as_moved}
use Rattle.testing_rules_model.specs.Moves.{group_sources, move_group, offender_of, remove_source}
use Rattle.testing_rules_model.specs.Suite.{Suite}
use Rattle.testing_rules_model.specs.Unstable.{is_in_force}
use Rattle.testing_rules_model.specs.Updates.{Outcome, decide, nothing, in_turn, removals_of, remove_version, remove_item, is_candidate, is_in_testing, is_remaining, move_as_one, move_items, move_easy, moved_alone, single_moves, remaining, update_by}
use Rattle.testing_rules_model.specs.steps.Updates.{is_allowed_alone, accepted}
use Rattle.testing_rules_model.proofs.Least.{from_filter}

-- Lists.

first_of_both : (a b : Bool) → (a && b) ≡ true → a ≡ true
first_of_both true b h = refl
first_of_both false b h = absurd (false≢true h)

second_of_both : (a b : Bool) → (a && b) ≡ true → b ≡ true
second_of_both true b h = h
second_of_both false b h = absurd (false≢true h)

some_at : {A : Type 0} (test : A → Bool) (y : A) (xs : List A) (b : Bool) → test y ≡ b → (b || list_any test xs) ≡ true
    → (list_any test xs ≡ true → (x : A) × Contains xs x × (test x ≡ true)) → (x : A) × Contains (y ∷ xs) x × (test x ≡ true)
some_at test y xs true e h more = (y, head_of y xs, e)
some_at test y xs false e h more = let s = more h in (s.0, tail_of y xs s.0 s.1, s.2)

-- an element that passes, where one does
some_of : {A : Type 0} (test : A → Bool) (xs : List A) → list_any test xs ≡ true → (x : A) × Contains xs x × (test x ≡ true)
some_of test [] h = absurd (false≢true h)
some_of test (y ∷ xs) h = some_at test y xs (test y) refl h (some_of test xs)

module _ {A : Type 0} (P : A → Type 0) where
  front : (xs ys : List A) → AllByRecursion P (xs ++ ys) → AllByRecursion P xs
  front [] ys h = tt
  front (x ∷ xs) ys h = (h.0, front xs ys h.1)

  back : (xs ys : List A) → AllByRecursion P (xs ++ ys) → AllByRecursion P ys
  back [] ys h = h
  back (x ∷ xs) ys h = back xs ys h.1

  module _ (test : A → Bool) (xs : List A) (x : A) (found : find test xs ≡ Some x) where
    inside : position_or_len test xs < length xs
    inside =
        ⊎_elim (λ l. l) (λ l. absurd (false≢true (sym (ap is_some (sym found ∙ find_at test xs ∙ slice_get_past xs (position_or_len test xs) (omega (arith, l)))))))
        (cases_lt (position_or_len test xs) (length xs))

    -- a list is what stands before the one that is found, that one, and what stands behind it
    cut : xs ≡ before_first test xs ++ (x ∷ after_first test xs)
    cut =
        split_at_first test xs x inside
        ∙ ap (λ y. before_first test xs ++ (y ∷ after_first test xs))
        (same_Some (get_or xs (position_or_len test xs) x) x (sym (slice_get-get_or xs (position_or_len test xs) x inside) ∙ sym (find_at test xs) ∙ found))

    parts : AllByRecursion P xs → AllByRecursion P (before_first test xs ++ (x ∷ after_first test xs))
    parts h = subst (AllByRecursion P) cut h

    found_has : AllByRecursion P xs → P x
    found_has h = (back (before_first test xs) (x ∷ after_first test xs) (parts h)).0

    others_have : AllByRecursion P xs → AllByRecursion P (after_first test xs ++ before_first test xs)
    others_have h =
        each-append P (after_first test xs) (before_first test xs)
        (back (before_first test xs) (x ∷ after_first test xs) (parts h)).1 (front (before_first test xs) (x ∷ after_first test xs) (parts h))

-- Candidates.

-- an excuse names the source, and no reason keeps it out
pub record IsFree (excuses : List Excuse) (name : Text) : Type 0 where
  pub excuse : Excuse
  pub among : Contains excuses excuse
  pub named : excuse.source ≡ name
  pub free : is_empty excuse.reasons ≡ true

module _ (excuses : List Excuse) where
  of_candidate : (name v : Text) → is_candidate excuses name v ≡ true → IsFree excuses name
  of_candidate name v h =
      let s = some_of (λ (e : Excuse). bytes_eq e.source name && is_empty e.reasons && is_same_version e.unstable v) excuses h in
      let both = first_of_both (bytes_eq s.0.source name && is_empty s.0.reasons) (is_same_version s.0.unstable v) s.2 in
      record {
        excuse = s.0;
        among = s.1;
        named = (bytes_eq-Decides s.0.source name).0 (first_of_both (bytes_eq s.0.source name) (is_empty s.0.reasons) both);
        free = second_of_both (bytes_eq s.0.source name) (is_empty s.0.reasons) both;
      }

  abbrev isnt_free : HintItem → Bool
  isnt_free j = not (is_candidate excuses j.name j.version)

  all_free_at : (b : Bool) (i : HintItem) (is : List HintItem) → is_candidate excuses i.name i.version ≡ b → cond (not b) (Some i) (find isnt_free is) ≡ None
      → (find isnt_free is ≡ None → AllByRecursion (IsFree excuses) (map (λ j. j.name) is)) → AllByRecursion (IsFree excuses) (map (λ j. j.name) (i ∷ is))
  all_free_at true i is e h more = (of_candidate i.name i.version e, more h)
  all_free_at false i is e h more = absurd (false≢true (sym (ap is_some h)))

  -- where no item isn't a candidate
  all_free : (is : List HintItem) → find isnt_free is ≡ None → AllByRecursion (IsFree excuses) (map (λ j. j.name) is)
  all_free [] h = tt
  all_free (i ∷ is) h = all_free_at (is_candidate excuses i.name i.version) i is refl h (all_free is)

  abbrev IsFreeExcuse : Excuse → Type 0
  IsFreeExcuse e = IsFree excuses e.source

  remaining_free_in : (t : Suite) (es : List Excuse) → ((e : Excuse) → Contains es e → IsFreeExcuse e) → AllByRecursion IsFreeExcuse es
  remaining_free_in t [] h = tt
  remaining_free_in t (e ∷ es) h = (h e (head_of e es), remaining_free_in t es (λ x c. h x (tail_of e es x c)))

  remaining_free : (t : Suite) → AllByRecursion IsFreeExcuse (remaining excuses t)
  remaining_free t =
      remaining_free_in t (remaining excuses t) (λ e c.
      let f = from_filter (is_remaining t) excuses e c in
      record { excuse = e; among = f.0; named = refl; free = first_of_both (is_empty e.reasons) (not (is_in_testing t e.source e.unstable)) f.1 })

-- A run.

module _ (Holds : Suite → Type 0) (archs : List Text) (sources : List UploadIn) (rows : List RowIn) (excuses : List Excuse)
    (removal_keeps : (name : Text) (t : Suite) → Holds t → Holds (remove_source name t))
    (move_keeps : (group : List Text) (t : Suite) → AllByRecursion (IsFree excuses) group → Holds t → Holds (move_group sources rows group t)) where
  turns_keep : {A : Type 0} (step : A → Suite → Outcome) → ((x : A) (t : Suite) → Holds t → Holds (step x t).suite) → (xs : List A) (t : Suite) → Holds t → Holds (in_turn step xs t).suite
  turns_keep step keeps [] t h = h
  turns_keep step keeps (x ∷ xs) t h = turns_keep step keeps xs (step x t).suite (keeps x t h)

  remove_at : (number : ℕ) (name v : Text) (t : Suite) (m : Option Offender) → Holds t
      → (let p : Outcome = elim m [ None ↦ decide (RemoveDone number name v) (remove_source name t) | Some o ↦ decide (RemoveRefused number name v o) t ] in Holds p.suite)
  remove_at number name v t None h = removal_keeps name t h
  remove_at number name v t (Some o) h = h

  same_at : (number : ℕ) (name v : Text) (t : Suite) (b : Bool) → Holds t
      → (let p : Outcome = elim b [ true ↦ remove_version archs number name v t | false ↦ nothing t ] in Holds p.suite)
  same_at number name v t true h = remove_at number name v t (offender_of archs t.rows (remove_source name t).rows []) h
  same_at number name v t false h = h

  item_at : (number : ℕ) (i : HintItem) (t : Suite) (m : Option Text) → Holds t
      → (let p : Outcome = elim m [ None ↦ nothing t | Some v ↦ elim (is_same_version v i.version) [ true ↦ remove_version archs number i.name v t | false ↦ nothing t ] ] in Holds p.suite)
  item_at number i t None h = h
  item_at number i t (Some v) h = same_at number i.name v t (is_same_version v i.version) h

  item_keeps : (x : ℕ × HintItem) (t : Suite) → Holds t → Holds (remove_item archs x t).suite
  item_keeps (number, i) t h = item_at number i t (testing_version t i.name) h

  group_at : (number : ℕ) (group : List Text) (t : Suite) (m : Option Offender) → AllByRecursion (IsFree excuses) group → Holds t
      → (let p : Outcome = elim m [ None ↦ decide (EasyDone number (map as_moved (group_sources sources group))) (move_group sources rows group t) | Some o ↦ decide (EasyRefused number o) t ] in Holds p.suite)
  group_at number group t None free h = move_keeps group t free h
  group_at number group t (Some o) free h = h

  group_keeps : (number : ℕ) (group : List Text) (t : Suite) → AllByRecursion (IsFree excuses) group → Holds t → Holds (move_as_one archs sources rows number group t).suite
  group_keeps number group t free h = group_at number group t (offender_of archs t.rows (move_group sources rows group t).rows group) free h

  items_at : (number : ℕ) (items : List HintItem) (t : Suite) (m : Option HintItem) → find (isnt_free excuses) items ≡ m → Holds t
      → (let p : Outcome = elim m [ None ↦ move_as_one archs sources rows number (map (λ j. j.name) items) t | Some j ↦ decide (EasyNotCandidate number j.name j.version) t ] in Holds p.suite)
  items_at number items t None e h = group_keeps number (map (λ j. j.name) items) t (all_free excuses items e) h
  items_at number items t (Some j) e h = h

  items_keep : (number : ℕ) (items : List HintItem) (t : Suite) → Holds t → Holds (move_items archs sources rows excuses number items t).suite
  items_keep number [] t h = h
  items_keep number (i ∷ is) t h = items_at number (i ∷ is) t (find (isnt_free excuses) (i ∷ is)) refl h

  easy_at : (number : ℕ) (hint : Hint) (t : Suite) → Holds t
      → (let p : Outcome = elim hint [ Easy items ↦ move_items archs sources rows excuses number (filter (λ i. not (is_in_testing t i.name i.version)) items) t | _ ↦ nothing t ] in Holds p.suite)
  easy_at number (Easy items) t h = items_keep number (filter (λ (i : HintItem). not (is_in_testing t i.name i.version)) items) t h
  easy_at number (Block names) t h = h
  easy_at number BlockAll t h = h
  easy_at number (Unblock items) t h = h
  easy_at number (AgeDays n items) t h = h
  easy_at number (Remove items) t h = h

  easy_keeps : (x : HintIn) (t : Suite) → Holds t → Holds (move_easy archs sources rows excuses x t).suite
  easy_keeps x t h = easy_at x.number x.hint t h

  single_at : (n : ℕ) (es : List Excuse) (t : Suite) (m : Option Excuse) → find (is_allowed_alone archs sources rows t) es ≡ m
      → ((xs : List Excuse) (u : Suite) → AllByRecursion (IsFreeExcuse excuses) xs → Holds u → Holds (single_moves archs sources rows n xs u).suite)
      → AllByRecursion (IsFreeExcuse excuses) es → Holds t
      → (let p : Outcome = elim m [
        | None ↦ nothing t
        | Some e ↦ let rest = single_moves archs sources rows n (after_first (is_allowed_alone archs sources rows t) es ++ before_first (is_allowed_alone archs sources rows t) es) (moved_alone sources rows t e) in
            record { decisions = accepted e ∷ rest.decisions; suite = rest.suite }
      ] in Holds p.suite)
  single_at n es t None e more free h = h
  single_at n es t (Some x) e more free h =
      let allowed = is_allowed_alone archs sources rows t in
      more (after_first allowed es ++ before_first allowed es) (moved_alone sources rows t x) (others_have (IsFreeExcuse excuses) allowed es x e free)
      (move_keeps (x.source ∷ []) t (found_has (IsFreeExcuse excuses) allowed es x e free, tt) h)

  singles_keep : (n : ℕ) (es : List Excuse) (t : Suite) → AllByRecursion (IsFreeExcuse excuses) es → Holds t → Holds (single_moves archs sources rows n es t).suite
  singles_keep zero es t free h = h
  singles_keep (suc n) es t free h = single_at n es t (find (is_allowed_alone archs sources rows t) es) refl (singles_keep n) free h

  -- a whole run
  pub run_keeps : (hints : List HintIn) (unhints : List UnhintIn) (t : Suite) → Holds t → Holds (update_by archs sources rows hints unhints excuses t).suite
  run_keeps hints unhints t h =
      let hints_in_force = filter (is_in_force unhints) hints in
      let removed = in_turn (remove_item archs) (flat_map removals_of hints_in_force) t in
      let grouped = in_turn (move_easy archs sources rows excuses) hints_in_force removed.suite in
      singles_keep (length (remaining excuses grouped.suite)) (remaining excuses grouped.suite) grouped.suite (remaining_free excuses grouped.suite)
      (turns_keep (move_easy archs sources rows excuses) easy_keeps hints_in_force removed.suite
      (turns_keep (remove_item archs) item_keeps (flat_map removals_of hints_in_force) t h))
