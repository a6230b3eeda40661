-- Tables of testing that are changed until they have the new entries alone.
use Rattle.std.proofs.Common.{◌≡◌, ◌≤◌, ◌+◌, inl, inr, ℕ, zero, suc, ℤ, List, [], ◌∷◌, ◌++◌, map, filter, filter_map, take, drop, length, Bool, true, false, cond, not, Option, Some, None, refl, sym, ap, subst, ◌∙◌, arith}
use Rattle.std.specs.Prelude.{⊤}
use Rattle.std.specs.List.{cons_option, slice_get, AllByRecursion}
use Rattle.std.specs.List.Sorted.{IsPermutation, IsStrictlySortedBy}
use Rattle.std.specs.Cmp.{IsTotalOrder}
use Rattle.std.specs.declared.cmp.Ordering.{Ordering}
use Rattle.std.specs.declared.cmp.Ordering.TheVariants.{Less, Equal, Greater}
use Rattle.std.specs.Ordering.{is_eq, match_ordering}
use Rattle.std.specs.FinMap.{IsAntisymmetric, find, len, from_entries, get-from_entries, len-empty}
use Rattle.std.proofs.lemmas.Bool.{or_parts}
use Rattle.std.proofs.lemmas.Cmp.{tied_itself}
use Rattle.std.proofs.lemmas.Option.{slice_get_within, get_or_from_slice_get}
use Rattle.std.proofs.lemmas.List.{append_assoc, length-map, map-append, take_more, drop_more, take_all, drop_all}
use Rattle.std.proofs.lemmas.List.Sorted.{IsPermutation-refl, IsPermutation-sym, IsPermutation-trans, IsPermutation-cons, IsPermutation-middle, IsPermutation-map}
use Rattle.sqlite_trees.proofs.ListLemmas.{filter-map, IsPermutation-filter}
use Rattle.sqlite_rules.specs.Lists.{Has}
use Rattle.sqlite_rules.specs.Edit.{is_taken}
use Rattle.sqlite.specs.declared.types.Value.TheVariants.{Int}
use Rattle.sqlite.specs.Order.{Row, column, value_cmp}
use Rattle.sqlite.specs.Tree.{Trees, rowid, has_rowid, without_rowid, put_row}
use Rattle.testing_rules_model.specs.declared.suite.SourceIn.{SourceIn}
use Rattle.testing_rules_model.specs.declared.suite.RowIn.{RowIn}
use Rattle.testing_rules_items.specs.Words.{byte_cmp}
use Rattle.testing_rules_model.specs.Moves.{row_cmp, row_key}
use Rattle.testing_rules_model.specs.InOrder.{AreByName, AreByKey}
use Rattle.testing_rules_model.proofs.Orders.{text_order}
use Rattle.office_store_testing_tables.specs.steps.TableSteps.{Rows, rows_in}
use Rattle.office_store_testing_tables.specs.Entries.{source_in, entry_in}
use Rattle.office_store_testing_tables.specs.declared.rowids.ChangedTable.{ChangedTable}
use Rattle.office_store_testing_tables.specs.declared.rowids.ChangedTable.TheVariants as changed
use Rattle.office_store_testing_tables.specs.steps.ChangedTables.{place_of, with_table, TakesOut, Takes, Adds, AddsAll}
use Rattle.office_store_testing_tables.specs.steps.EntrySteps.{source_columns, source_entry, source_shown, SetsSources, entry_columns, row_entry, row_shown, SetsRows}
use Rattle.office_store_testing_tables.specs.steps.Differences.{AreCompared, TableCompared, HasAlone}
use Rattle.office_store_testing_tables.proofs.MailLemmas.{filter_same, has_permuted, empty_of, as_many, only_shown}
use Rattle.office_store_testing_tables.proofs.DeleteLemmas.{itself}
use Rattle.office_store_testing_tables.proofs.EntryMaps.{last_is_first}
use Rattle.office_store_testing_tables.proofs.EntryValues.{read_has, has_read, has_map, map_has}
use Rattle.office_store_testing_tables.proofs.SettingLemmas.{text_exact, row_order, row_exact}
use Rattle.office_store_testing_tables.proofs.Whole.{len_more}

-- ---- the only element that passes a test

module _ {X : Type 0} (p : X → Bool) where
  none_passes : (xs : List X) → filter p xs ≡ [] → filter (λ y. not (p y)) xs ≡ xs
  none_passes [] none = refl
  none_passes (x ∷ xs) none = go (p x) none (none_passes xs)
    where
      go : (b : Bool) → cond b (x ∷ filter p xs) (filter p xs) ≡ [] → (filter p xs ≡ [] → filter (λ y. not (p y)) xs ≡ xs) → cond (not b) (x ∷ filter (λ y. not (p y)) xs) (filter (λ y. not (p y)) xs) ≡ x ∷ xs
      go true h later = absurd (let e = h in cc)
      go false h later = ap (λ l. x ∷ l) (later h)

  some_passes : (front : List X) (x : X) (back : List X) → p x ≡ true → 1 ≤ length (filter p (front ++ x ∷ back))
  some_passes [] x back is = let l : length (filter p (x ∷ back)) ≡ length (x ∷ filter p back) = ap (λ b. length (cond b (x ∷ filter p back) (filter p back))) is in omega (arith, l)
  some_passes (y ∷ front) x back is = go (p y) (some_passes front x back is)
    where
      go : (b : Bool) → 1 ≤ length (filter p (front ++ x ∷ back)) → 1 ≤ length (cond b (y ∷ filter p (front ++ x ∷ back)) (filter p (front ++ x ∷ back)))
      go true h = omega (arith, h)
      go false h = h

  pub alone : (front : List X) (x : X) (back : List X) → p x ≡ true → length (filter p (front ++ x ∷ back)) ≡ 1 → (filter p (front ++ x ∷ back) ≡ x ∷ []) × (filter (λ y. not (p y)) (front ++ x ∷ back) ≡ front ++ back)
  alone [] x back is one =
      let here : filter p (x ∷ back) ≡ x ∷ filter p back = ap (λ b. cond b (x ∷ filter p back) (filter p back)) is in
      let none : filter p back ≡ [] = empty_of (filter p back) (omega (arith, one, ap length here)) in
      (here ∙ ap (λ l. x ∷ l) none, ap (λ b. cond (not b) (x ∷ filter (λ y. not (p y)) back) (filter (λ y. not (p y)) back)) is ∙ none_passes back none)
  alone (y ∷ front) x back is one = go (p y) one (some_passes front x back is) (alone front x back is)
    where
      more : List X
      more = front ++ x ∷ back

      go : (b : Bool) → length (cond b (y ∷ filter p more) (filter p more)) ≡ 1 → 1 ≤ length (filter p more)
          → (length (filter p more) ≡ 1 → (filter p more ≡ x ∷ []) × (filter (λ z. not (p z)) more ≡ front ++ back))
          → (cond b (y ∷ filter p more) (filter p more) ≡ x ∷ []) × (cond (not b) (y ∷ filter (λ z. not (p z)) more) (filter (λ z. not (p z)) more) ≡ y ∷ (front ++ back))
      go true h some later = absurd (omega (arith, h, some))
      go false h some later = ((later h).0, ap (λ l. y ∷ l) (later h).1)

-- ---- a row with a rowid of its own

pub put_moved : (row : Row) (rows : List Row) → is_taken rows row ≡ false → IsPermutation (put_row row rows) (row ∷ rows)
put_moved row [] fresh = IsPermutation-refl (row ∷ [])
put_moved row (r ∷ rows) fresh =
    let parts = or_parts _ _ fresh in
    go (value_cmp (rowid r) (rowid row)) parts.0 (put_moved row rows parts.1)
  where
    go : (o : Ordering) → is_eq o ≡ false → IsPermutation (put_row row rows) (row ∷ rows) → IsPermutation (match_ordering o (r ∷ put_row row rows) (row ∷ rows) (row ∷ r ∷ rows)) (row ∷ r ∷ rows)
    go Less other h = IsPermutation-trans _ _ _ (IsPermutation-cons r (put_row row rows) (row ∷ rows) h) (IsPermutation-middle (r ∷ []) row rows)
    go Equal other h = absurd (let e = other in cc)
    go Greater other h = IsPermutation-refl (row ∷ r ∷ rows)

-- ---- places in lists

behind : {X : Type 0} (xs : List X) (i : ℕ) (x : X) → slice_get xs i ≡ Some x → drop i xs ≡ x ∷ drop (i + 1) xs
behind xs i x is = drop_more xs i x (slice_get_within xs i x is) ∙ ap (λ y. y ∷ drop (i + 1) xs) (get_or_from_slice_get xs i x x is)

up_to : {X : Type 0} (xs : List X) (i : ℕ) (x : X) → slice_get xs i ≡ Some x → take (i + 1) xs ≡ take i xs ++ x ∷ []
up_to xs i x is = take_more xs i x (slice_get_within xs i x is) ∙ ap (λ y. take i xs ++ y ∷ []) (get_or_from_slice_get xs i x x is)

-- these elements stand in the list from a place on
abbrev pub AreFrom : {X : Type 0} → List X → ℕ → List X → Type 0
AreFrom all j [] = ⊤
AreFrom all j (x ∷ xs) = (slice_get all j ≡ Some x) × AreFrom all (j + 1) xs

shifted : {X : Type 0} (y : X) (all xs : List X) (j : ℕ) → AreFrom all j xs → AreFrom (y ∷ all) (j + 1) xs
shifted y all [] j h = tt
shifted y all (x ∷ xs) j h = let up : suc j ≡ j + 1 = omega arith in (subst (λ n. slice_get (y ∷ all) n ≡ Some x) up h.0, shifted y all xs (j + 1) h.1)

pub are_from : {X : Type 0} (all : List X) (j k : ℕ) → AreFrom all j (take k (drop j all))
are_from all j zero = tt
are_from [] zero (suc k) = tt
are_from [] (suc j) (suc k) = tt
are_from (x ∷ all) zero (suc k) = (refl, shifted x all (take k all) 0 (are_from all 0 k))
are_from (x ∷ all) (suc j) (suc k) =
    let up : j + 1 ≡ suc j = omega arith in
    subst (λ n. AreFrom (x ∷ all) n (take (suc k) (drop j all))) up (shifted x all (take (suc k) (drop j all)) j (are_from all j (suc k)))

-- ---- one step of a comparison

module _ {X E : Type 0} (columns : Row → Row) (says : Row → Option E) (entry : X → E) (shown_says : (row : Row) → says (columns row) ≡ says row) (first : (row : Row) → column (columns row) 0 ≡ column row 0) (shown : List Row) (new : List X) where
  pub compared_none : (table : List Row) → IsPermutation (map columns table) shown → AreCompared columns says entry table shown new 0 0
  compared_none table same = record { done = []; are = same; said = refl }

  one_more : (done : List Row) (row : Row) (x : X) (j : ℕ) → slice_get new j ≡ Some x → says row ≡ Some (entry x) → map says done ≡ map (λ y. Some (entry y)) (take j new)
      → map says (done ++ row ∷ []) ≡ map (λ y. Some (entry y)) (take (j + 1) new)
  one_more done row x j there is said =
      map-append says done (row ∷ [])
      ∙ ap (λ l. l ++ says row ∷ []) said
      ∙ ap (λ o. map (λ y. Some (entry y)) (take j new) ++ o ∷ []) is
      ∙ sym (map-append (λ y. Some (entry y)) (take j new) (x ∷ []))
      ∙ ap (map (λ y. Some (entry y))) (sym (up_to new j x there))

  pub compared_stays : (table : List Row) (i j : ℕ) (row : Row) (x : X) → slice_get shown i ≡ Some row → slice_get new j ≡ Some x → says row ≡ Some (entry x)
      → AreCompared columns says entry table shown new i j → AreCompared columns says entry table shown new (i + 1) (j + 1)
  compared_stays table i j row x here there is was = record {
    done = was.done ++ row ∷ [];
    are = subst (IsPermutation (map columns table)) (ap (λ l. was.done ++ l) (behind shown i row here) ∙ sym (append_assoc was.done (row ∷ []) (drop (i + 1) shown))) was.are;
    said = one_more was.done row x j there is was.said;
  }

  pub compared_leaves : (table next : List Row) (i j : ℕ) (row : Row) (id : ℤ) → slice_get shown i ≡ Some row → column row 0 ≡ Int id → TakesOut table next id 1
      → AreCompared columns says entry table shown new i j → AreCompared columns says entry next shown new (i + 1) j
  compared_leaves table next i j row id here own taken was =
      let rest : List Row = drop (i + 1) shown in
      let here_is : (r : Row) → has_rowid id (columns r) ≡ has_rowid id r = λ r. ap (λ v. is_eq (value_cmp v (Int id))) (first r) in
      let at : IsPermutation (map columns table) (was.done ++ row ∷ rest) = subst (λ l. IsPermutation (map columns table) (was.done ++ l)) (behind shown i row here) was.are in
      let has : has_rowid id row ≡ true = ap (λ v. is_eq (value_cmp v (Int id))) own ∙ itself id in
      let mapped : filter (has_rowid id) (map columns table) ≡ map columns (filter (has_rowid id) table) = filter-map (has_rowid id) columns table ∙ ap (map columns) (filter_same _ _ here_is table) in
      let passing : IsPermutation (map columns (filter (has_rowid id) table)) (filter (has_rowid id) (was.done ++ row ∷ rest)) =
      subst (λ l. IsPermutation l (filter (has_rowid id) (was.done ++ row ∷ rest))) mapped (IsPermutation-filter (has_rowid id) (map columns table) (was.done ++ row ∷ rest) at) in
      let count : length (filter (has_rowid id) (was.done ++ row ∷ rest)) ≡ 1 = sym (as_many columns (filter (has_rowid id) table) _ passing) ∙ sym taken.counted in
      let only = alone (has_rowid id) was.done row rest has count in
      let o = only_shown columns (filter (has_rowid id) table) row (subst (IsPermutation (map columns (filter (has_rowid id) table))) only.0 passing) in
      let left : next ≡ without_rowid id table = taken.left o.0 o.1 (sym (first o.0) ∙ ap (λ (r : Row). column r 0) (sym o.2) ∙ own) in
      record {
        done = was.done;
        are = subst (λ l. IsPermutation (map columns l) (was.done ++ rest)) (sym left)
            (subst (λ l. IsPermutation l (was.done ++ rest)) (filter-map (λ r. not (has_rowid id r)) columns table ∙ ap (map columns) (filter_same _ _ (λ r. ap not (here_is r)) table))
            (subst (IsPermutation (filter (λ r. not (has_rowid id r)) (map columns table))) only.1 (IsPermutation-filter (λ r. not (has_rowid id r)) (map columns table) (was.done ++ row ∷ rest) at)));
        said = was.said;
      }

  pub compared_comes : (table : List Row) (i j : ℕ) (row : Row) (x : X) → slice_get new j ≡ Some x → says row ≡ Some (entry x) → is_taken table row ≡ false
      → AreCompared columns says entry table shown new i j → AreCompared columns says entry (put_row row table) shown new i (j + 1)
  compared_comes table i j row x there is fresh was = record {
    done = was.done ++ columns row ∷ [];
    are =
        let moved : IsPermutation (map columns (put_row row table)) (columns row ∷ map columns table) = IsPermutation-map columns (put_row row table) (row ∷ table) (put_moved row table fresh) in
        let under : IsPermutation (columns row ∷ map columns table) (columns row ∷ (was.done ++ drop i shown)) = IsPermutation-cons (columns row) (map columns table) (was.done ++ drop i shown) was.are in
        let back : IsPermutation (columns row ∷ (was.done ++ drop i shown)) (was.done ++ columns row ∷ drop i shown) = IsPermutation-sym (was.done ++ columns row ∷ drop i shown) (columns row ∷ (was.done ++ drop i shown)) (IsPermutation-middle was.done (columns row) (drop i shown)) in
        subst (IsPermutation (map columns (put_row row table))) (sym (append_assoc was.done (columns row ∷ []) (drop i shown)))
        (IsPermutation-trans _ _ _ moved (IsPermutation-trans _ _ _ under back));
    said = one_more was.done (columns row) x j there (shown_says row ∙ is) was.said;
  }

  -- where both lists are through, the table has the new entries alone
  pub all_compared : (table : List Row) (i j : ℕ) → length shown ≤ i → length new ≤ j → AreCompared columns says entry table shown new i j
      → (done : List Row) × IsPermutation (map columns table) done × (map says done ≡ map (λ x. Some (entry x)) new)
  all_compared table i j a b was = (
    was.done,
    subst (IsPermutation (map columns table)) (ap (λ l. was.done ++ l) (drop_all i shown a) ∙ append_none was.done) was.are,
    was.said ∙ ap (map (λ x. Some (entry x))) (take_all j new b),
  )
    where
      append_none : (l : List Row) → l ++ [] ≡ l
      append_none [] = refl
      append_none (x ∷ l) = ap (λ m. x ∷ m) (append_none l)

-- ---- what a table says that has the new entries alone

module _ {X K V : Type 0} {R : K → K → Ordering} (total : IsTotalOrder R) (exact : IsAntisymmetric R) (columns : Row → Row) (says : Row → Option (K × V)) (entry : X → K × V) (shown_says : (row : Row) → says (columns row) ≡ says row) where
  abbrev Sorted : List (K × V) → Type 0
  Sorted es = IsStrictlySortedBy R (map (λ (e : K × V). e.0) es)

  under_all : (P : K → Type 0) (es : List (K × V)) (e : K × V) → AllByRecursion P (map (λ (x : K × V). x.0) es) → Has es e → P e.0
  under_all P [] e each there = absurd there
  under_all P (x ∷ es) e each (inl is) = subst (λ (y : K × V). P y.0) (sym is) each.0
  under_all P (x ∷ es) e each (inr there) = under_all P es e each.1 there

  not_below_itself : (k : K) → R k k ≡ Less → ⊥
  not_below_itself k less = let e : Less ≡ Equal = sym less ∙ tied_itself total k in cc

  one_value : (es : List (K × V)) → Sorted es → (q : K) (v w : V) → Has es (q, v) → Has es (q, w) → v ≡ w
  unfolding IsStrictlySortedBy
  one_value [] sorted q v w a b = absurd a
  one_value (e ∷ es) sorted q v w (inl a) (inl b) = ap (λ (x : K × V). x.1) (a ∙ sym b)
  one_value (e ∷ es) sorted q v w (inl a) (inr b) = absurd (not_below_itself q (subst (λ k. R k q ≡ Less) (sym (ap (λ (x : K × V). x.0) a)) (under_all (λ y. R e.0 y ≡ Less) es (q, w) sorted.0 b)))
  one_value (e ∷ es) sorted q v w (inr a) (inl b) = absurd (not_below_itself q (subst (λ k. R k q ≡ Less) (sym (ap (λ (x : K × V). x.0) b)) (under_all (λ y. R e.0 y ≡ Less) es (q, v) sorted.0 a)))
  one_value (e ∷ es) sorted q v w (inr a) (inr b) = one_value es sorted.1 q v w a b

  none_tied : (k : K) (es : List (K × V)) → AllByRecursion (λ y. R k y ≡ Less) (map (λ (x : K × V). x.0) es) → find R k es ≡ None
  none_tied k [] each = refl
  none_tied k (e ∷ es) each = ap (λ o. cond (is_eq o) (Some e.1) (find R k es)) each.0 ∙ none_tied k es each.1

  as_long : (es : List (K × V)) → Sorted es → len (from_entries {R = R} es) ≡ length es
  unfolding IsStrictlySortedBy
  as_long [] sorted = len-empty R V
  as_long (e ∷ es) sorted =
      let grown : len (from_entries {R = R} (e ∷ es)) ≡ len (from_entries {R = R} es) + 1 =
      len_more total exact says (from_entries {R = R} es) e.0 e.1 (get-from_entries total es e.0 ∙ none_tied e.0 es sorted.0) in
      omega (arith, grown, as_long es sorted.1)

  said_each : (done : List Row) (new : List X) → map says done ≡ map (λ x. Some (entry x)) new → filter_map says done ≡ map entry new
  said_each [] [] h = refl
  said_each [] (x ∷ new) h = absurd (let e = h in cc)
  said_each (row ∷ done) [] h = absurd (let e = h in cc)
  said_each (row ∷ done) (x ∷ new) h =
      let p : (says row ≡ Some (entry x)) × (map says done ≡ map (λ y. Some (entry y)) new) = (let e = h in cc, let e = h in cc) in
      ap (λ o. cons_option o (filter_map says done)) p.0 ∙ ap (λ l. entry x ∷ l) (said_each done new p.1)

  module _ (table done : List Row) (new : List X) (same : IsPermutation (map columns table) done) (said : map says done ≡ map (λ x. Some (entry x)) new) (sorted : Sorted (map entry new)) where
    in_table : (e : K × V) → Has (map entry new) e → Has (filter_map says table) e
    in_table e there =
        let r = read_has says done e (subst (λ l. Has l e) (sym (said_each done new said)) there) in
        let c = has_map columns table r.0 (has_permuted (map columns table) done r.0 same r.1) in
        has_read says table c.0 e c.1 (sym (shown_says c.0) ∙ ap says (sym c.2) ∙ r.2)

    in_new : (e : K × V) → Has (filter_map says table) e → Has (map entry new) e
    in_new e there =
        let r = read_has says table e there in
        subst (λ l. Has l e) (said_each done new said)
        (has_read says done (columns r.0) e (has_permuted done (map columns table) (columns r.0) (IsPermutation-sym (map columns table) done same) (map_has columns table r.0 r.1)) (shown_says r.0 ∙ r.2))

    pub says_new : from_entries {R = R} (filter_map says table) ≡ from_entries (map entry new)
    says_new =
        let one = one_value (map entry new) sorted in
        sym (last_is_first total exact (map entry new) (filter_map says table) (λ q v there. in_table (q, v) there) (λ q v there. in_new (q, v) there) one)
        ∙ last_is_first total exact (map entry new) (map entry new) (λ q v there. there) (λ q v there. there) one

    pub whole_new : len (from_entries {R = R} (filter_map says table)) ≡ length table
    whole_new =
        let a : length table ≡ length done = as_many columns table done same in
        let b : length done ≡ length new = sym (length-map done says) ∙ ap length said ∙ length-map new (λ x. Some (entry x)) in
        ap len says_new ∙ as_long (map entry new) sorted ∙ length-map new entry ∙ sym (a ∙ b)

same_keys : {X K V : Type 0} (entry : X → K × V) (key : X → K) → ((x : X) → (entry x).0 ≡ key x) → (xs : List X) → map (λ (e : K × V). e.0) (map entry xs) ≡ map key xs
same_keys entry key same [] = refl
same_keys entry key same (x ∷ xs) = rw (same x, same_keys entry key same xs) refl

-- ---- a table that is changed

-- one of the tables has these rows, where the others stand
placed : (table : ChangedTable) (db next : Trees) (rows : List Row) → rows_in next ≡ with_table table rows (rows_in db) → next (place_of table) ≡ rows
placed changed.Sources db next rows is = ap (λ (r : Rows). r.sources) is
placed changed.Rows db next rows is = ap (λ (r : Rows). r.rows) is
placed changed.Facts db next rows is = ap (λ (r : Rows). r.facts) is
placed changed.Delays db next rows is = ap (λ (r : Rows). r.delays) is

rest_none : (table : ChangedTable) (db : Trees) → rows_in db ≡ with_table table (db (place_of table)) (rows_in db)
rest_none changed.Sources db = refl
rest_none changed.Rows db = refl
rest_none changed.Facts db = refl
rest_none changed.Delays db = refl

rest_then : (table : ChangedTable) (a b c : Trees) (rows more : List Row) → rows_in b ≡ with_table table rows (rows_in a) → rows_in c ≡ with_table table more (rows_in b) → rows_in c ≡ with_table table more (rows_in a)
rest_then changed.Sources a b c rows more before after = after ∙ ap (λ (r : Rows). record r { sources = more }) before
rest_then changed.Rows a b c rows more before after = after ∙ ap (λ (r : Rows). record r { rows = more }) before
rest_then changed.Facts a b c rows more before after = after ∙ ap (λ (r : Rows). record r { facts = more }) before
rest_then changed.Delays a b c rows more before after = after ∙ ap (λ (r : Rows). record r { delays = more }) before

module _ {X E : Type 0} (table : ChangedTable) (columns : Row → Row) (says : Row → Option E) (entry : X → E) (shown_says : (row : Row) → says (columns row) ≡ says row) (first : (row : Row) → column (columns row) 0 ≡ column row 0) (shown : List Row) (new : List X) where
  abbrev Compared : Trees → Trees → ℕ → ℕ → Type 0
  Compared a b i j = TableCompared table columns says entry a b shown new i j

  pub entries_start : (db : Trees) → IsPermutation (map columns (db (place_of table))) shown → Compared db db 0 0
  entries_start db same = record { compared = compared_none columns says entry shown_says first shown new (db (place_of table)) same; rest = rest_none table db }

  pub entry_stays : (a b : Trees) (i j : ℕ) (row : Row) (x : X) → slice_get shown i ≡ Some row → slice_get new j ≡ Some x → says row ≡ Some (entry x) → Compared a b i j → Compared a b (i + 1) (j + 1)
  entry_stays a b i j row x here there is was = record { compared = compared_stays columns says entry shown_says first shown new (b (place_of table)) i j row x here there is was.compared; rest = was.rest }

  pub entry_leaves : (a b c : Trees) (i j : ℕ) (row : Row) (id : ℤ) → slice_get shown i ≡ Some row → column row 0 ≡ Int id → Takes table b c id 1 → Compared a b i j → Compared a c (i + 1) j
  entry_leaves a b c i j row id here own it was = record {
    compared = compared_leaves columns says entry shown_says first shown new (b (place_of table)) (c (place_of table)) i j row id here own it.taken was.compared;
    rest = rest_then table a b c _ _ was.rest it.rest;
  }

  pub entry_comes : (a b c : Trees) (i j : ℕ) (x : X) → slice_get new j ≡ Some x → Adds table says b c (entry x) → Compared a b i j → Compared a c i (j + 1)
  entry_comes a b c i j x there it was =
      let rows : c (place_of table) ≡ put_row it.row (b (place_of table)) = placed table b c _ it.put in
      record {
        compared = subst (λ l. AreCompared columns says entry l shown new i (j + 1)) (sym rows)
            (compared_comes columns says entry shown_says first shown new (b (place_of table)) i j it.row x there it.says it.free was.compared);
        rest = rest_then table a b c _ _ was.rest (subst (λ l. rows_in c ≡ with_table table l (rows_in b)) (sym rows) it.put);
      }

  pub entries_come : (a b c : Trees) (i j : ℕ) (more : List X) → AreFrom new j more → AddsAll table says b c (map entry more) → Compared a b i j → Compared a c i (j + length more)
  entries_come a b c i j [] from it was = let on : j ≡ j + 0 = omega arith in subst (λ (t : Trees). Compared a t i (j + 0)) (sym it) (subst (λ n. Compared a b i n) on was)
  entries_come a b c i j (x ∷ more) from it was =
      let on : j + 1 + length more ≡ j + length (x ∷ more) = omega arith in
      subst (λ n. Compared a c i n) on (entries_come a it.0 c i (j + 1) more from.1 it.2 (entry_comes a b it.0 i j x from.0 it.1 was))

  pub entries_end : (a b : Trees) (i j : ℕ) → length shown ≤ i → length new ≤ j → Compared a b i j → HasAlone table columns says entry a b new
  entries_end a b i j m n was =
      let all = all_compared columns says entry shown_says first shown new (b (place_of table)) i j m n was.compared in
      record { rows = all.0; are = all.1; said = all.2; rest = was.rest }

pub sets_sources : (a b : Trees) (sources : List SourceIn) → AreByName sources → HasAlone changed.Sources source_columns source_in source_entry a b sources → SetsSources a b sources
sets_sources a b sources ordered it =
    let sorted = subst (IsStrictlySortedBy byte_cmp) (sym (same_keys source_entry (λ s. s.name) (λ s. refl) sources)) ordered in
    record {
      has = says_new text_order text_exact source_columns source_in source_entry source_shown (b 4) it.rows sources it.are it.said sorted;
      whole = λ was_whole. whole_new text_order text_exact source_columns source_in source_entry source_shown (b 4) it.rows sources it.are it.said sorted;
      rest = it.rest;
    }

pub sets_rows : (a b : Trees) (rows : List RowIn) → AreByKey rows → HasAlone changed.Rows entry_columns entry_in row_entry a b rows → SetsRows a b rows
sets_rows a b rows ordered it =
    let sorted = subst (IsStrictlySortedBy row_cmp) (sym (same_keys row_entry row_key (λ r. refl) rows)) ordered in
    record {
      has = says_new row_order row_exact entry_columns entry_in row_entry row_shown (b 6) it.rows rows it.are it.said sorted;
      whole = λ was_whole. whole_new row_order row_exact entry_columns entry_in row_entry row_shown (b 6) it.rows rows it.are it.said sorted;
      rest = it.rest;
    }
