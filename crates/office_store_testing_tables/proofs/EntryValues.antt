-- Testing as its tables name it.
use Rattle.std.proofs.Common.{◌≡◌, ◌⊎◌, inl, inr, ℕ, List, [], ◌∷◌, map, filter_map, fold, length, Bool, true, false, cond, ◌&&◌, Option, Some, None, IsSome, is_some, refl, sym, ap, subst, ◌∙◌, arith, Result, Ok, Err, IfOk}
use Rattle.std.proofs.lemmas.List.{length-map}
use Rattle.std.proofs.lemmas.List.Sorted.{IsPermutation-sym}
use Rattle.std.proofs.lemmas.Slice.Eq.{bytes_eq-Decides}
use Rattle.std.proofs.lemmas.List.Elements.{All-contains, All-from_recursion}
use Rattle.std.specs.Cmp.{IsTotalOrder}
use Rattle.std.specs.Str.{bytes_eq}
use Rattle.std.specs.List.{cons_option, AllByRecursion}
use Rattle.std.specs.List.Sorted.{IsPermutation}
use Rattle.std.specs.declared.cmp.Ordering.{Ordering}
use Rattle.std.specs.FinMap.{IsAntisymmetric, empty, get, len, entries, from_entries, get-from_entries, len-entries, len-empty}
use Rattle.sqlite.specs.Order.{Row}
use Rattle.sqlite.specs.Tree.{Trees}
use Rattle.sqlite_rules.specs.Lists.{Has}
use Rattle.deb_control.specs.declared.binary.Binary.{Binary}
use Rattle.testing_rules_model.specs.Suite.{Suite}
use Rattle.testing_rules_items.specs.Words.{put_by, arch_name}
use Rattle.testing_rules_model.specs.Moves.{row_cmp, row_key}
use Rattle.testing_rules_model.specs.declared.suite.SourceIn.{SourceIn}
use Rattle.testing_rules_model.specs.declared.suite.RowIn.{RowIn}
use Rattle.testing_rules_model.proofs.Orders.{text_order}
use Rattle.testing_rules_items.proofs.Each.{each-put_all}
use Rattle.office_mail.specs.Lists.{Lists}
use Rattle.office_mail.specs.Kept.{Kept, Place}
use Rattle.office_mail.specs.declared.message.Message.{Message}
use Rattle.office_store_keeper.specs.Provenance.{upload_in, binary_in, IsArchPlace, KnowsArchs}
use Rattle.office_store_testing_tables.specs.Tables.{IsWhole, kept_rows}
use Rattle.office_store_testing_tables.specs.Legible.{AreNamed}
use Rattle.office_store_testing_tables.specs.Entries.{source_in, source_map, entry_in, entry_map}
use Rattle.office_store_testing_tables.specs.steps.EntrySteps.{source_columns, source_entry, source_shown, entry_columns, row_entry, row_shown}
use Rattle.office_store_testing_tables.specs.TableContent.{message_at, source_as, source_at, is_arch_place, row_as, row_at, suite_in}
use Rattle.office_store_testing_tables.specs.steps.TableContent.{source_of, row_of, put_all_sources, put_all_rows, IsGathered}
use Rattle.office_store_testing_tables.specs.steps.ReadingSteps.{source_by_message, source_by_entry, row_by_message, row_by_entry}
use Rattle.office_store_testing_tables.proofs.MailLemmas.{has_permuted, empty_of, as_many}
use Rattle.office_store_testing_tables.proofs.SettingLemmas.{text_exact, row_order, row_exact}
use Rattle.office_store_testing_tables.proofs.EntryLists.{suite_of}
use Rattle.office_store_testing_tables.proofs.EntryMaps.{last_of, IsFull, one_value, from_first, last_is_first, put_all_entries}

-- ---- what is read in a list

module _ {A B : Type 0} (f : A → Option B) where
  has_head : (o : Option B) (ys : List B) (y : B) → Has (cons_option o ys) y → (o ≡ Some y) ⊎ Has ys y
  has_head None ys y h = inr h
  has_head (Some z) ys y (inl is) = inl (ap Some (sym is))
  has_head (Some z) ys y (inr h) = inr h

  head_has : (o : Option B) (ys : List B) (y : B) → (o ≡ Some y) ⊎ Has ys y → Has (cons_option o ys) y
  head_has None ys y (inl is) = absurd (let e = is in cc)
  head_has None ys y (inr h) = h
  head_has (Some z) ys y (inl is) = let e : z ≡ y = cc in inl (sym e)
  head_has (Some z) ys y (inr h) = inr h

  pub read_has : (xs : List A) (y : B) → Has (filter_map f xs) y → (x : A) × Has xs x × (f x ≡ Some y)
  read_has [] y h = absurd h
  read_has (x ∷ xs) y h = elim (has_head (f x) (filter_map f xs) y h) [
    | inl is ↦ (x, inl refl, is)
    | inr there ↦ (let r = read_has xs y there in (r.0, inr r.1, r.2))
  ]

  pub has_read : (xs : List A) (x : A) (y : B) → Has xs x → f x ≡ Some y → Has (filter_map f xs) y
  has_read [] x y there is = absurd there
  has_read (z ∷ xs) x y (inl same) is = head_has (f z) (filter_map f xs) y (inl (ap f (sym same) ∙ is))
  has_read (z ∷ xs) x y (inr there) is = head_has (f z) (filter_map f xs) y (inr (has_read xs x y there is))

pub has_map : {A B : Type 0} (f : A → B) (xs : List A) (y : B) → Has (map f xs) y → (x : A) × Has xs x × (y ≡ f x)
has_map f [] y h = absurd h
has_map f (x ∷ xs) y (inl is) = (x, inl refl, is)
has_map f (x ∷ xs) y (inr there) = let r = has_map f xs y there in (r.0, inr r.1, r.2)

pub map_has : {A B : Type 0} (f : A → B) (xs : List A) (x : A) → Has xs x → Has (map f xs) (f x)
map_has f [] x there = absurd there
map_has f (z ∷ xs) x (inl same) = inl (ap f same)
map_has f (z ∷ xs) x (inr there) = inr (map_has f xs x there)

pub each_has : {X : Type 0} (P : X → Type 0) (xs : List X) (x : X) → AllByRecursion P xs → Has xs x → P x
each_has P [] x all there = absurd there
each_has P (y ∷ xs) x all (inl same) = subst P (sym same) all.0
each_has P (y ∷ xs) x all (inr there) = each_has P xs x all.1 there

-- ---- rows that name values, each under its entry

module _ {X E : Type 0} (columns : Row → Row) (read : Row → Option X) (said : Row → Option E) (entry : X → E) (at : E → Option X)
    (shown : (row : Row) → said (columns row) ≡ said row) (says : (row : Row) (x : X) → read row ≡ Some x → (said row ≡ Some (entry x)) × (at (entry x) ≡ Some x)) where
  heads : (row : Row) (x : X) (rows : List Row) (xs : List X) → map read (row ∷ rows) ≡ map Some (x ∷ xs) → (read row ≡ Some x) × (map read rows ≡ map Some xs)
  heads row x rows xs h = (let e = h in cc, let e = h in cc)

  pub said_are : (rows : List Row) (xs : List X) → map read rows ≡ map Some xs → filter_map said rows ≡ map entry xs
  said_are [] [] h = refl
  said_are [] (x ∷ xs) h = absurd (let e = h in cc)
  said_are (row ∷ rows) [] h = absurd (let e = h in cc)
  said_are (row ∷ rows) (x ∷ xs) h =
      let p = heads row x rows xs h in
      ap (λ o. cons_option o (filter_map said rows)) (says row x p.0).0 ∙ ap (λ l. entry x ∷ l) (said_are rows xs p.1)

  pub each_given : (rows : List Row) (xs : List X) → map read rows ≡ map Some xs → AllByRecursion (λ x. at (entry x) ≡ Some x) xs
  each_given [] [] h = tt
  each_given [] (x ∷ xs) h = absurd (let e = h in cc)
  each_given (row ∷ rows) [] h = tt
  each_given (row ∷ rows) (x ∷ xs) h = let p = heads row x rows xs h in ((says row x p.0).1, each_given rows xs p.1)

  module _ (table rows : List Row) (same : IsPermutation (map columns table) rows) where
    pub shown_in : (e : E) → Has (filter_map said rows) e → Has (filter_map said table) e
    shown_in e there =
        let r = read_has said rows e there in
        let c = has_map columns table r.0 (has_permuted (map columns table) rows r.0 same r.1) in
        has_read said table c.0 e c.1 (sym (shown c.0) ∙ ap said (sym c.2) ∙ r.2)

    pub in_shown : (e : E) → Has (filter_map said table) e → Has (filter_map said rows) e
    in_shown e there =
        let r = read_has said table e there in
        has_read said rows (columns r.0) e (has_permuted rows (map columns table) (columns r.0) (IsPermutation-sym (map columns table) rows same) (map_has columns table r.0 r.1)) (shown r.0 ∙ r.2)

pub all_back : {X E : Type 0} (entry : X → E) (at : E → Option X) (xs : List X) → AllByRecursion (λ x. at (entry x) ≡ Some x) xs → filter_map at (map entry xs) ≡ xs
all_back entry at [] h = refl
all_back entry at (x ∷ xs) h = ap (λ o. cons_option o (filter_map at (map entry xs))) h.0 ∙ ap (λ l. x ∷ l) (all_back entry at xs h.1)

-- What is put in order, with one for each key, is what the table's entries name.
module _ {K V X : Type 0} {R : K → K → Ordering} (total : IsTotalOrder R) (exact : IsAntisymmetric R) (key : X → K) (val : X → V) (columns : Row → Row) (read : Row → Option X) (said : Row → Option (K × V)) (at : K × V → Option X)
    (shown : (row : Row) → said (columns row) ≡ said row) (says : (row : Row) (x : X) → read row ≡ Some x → (said row ≡ Some (key x, val x)) × (at (key x, val x) ≡ Some x)) where
  abbrev entry : X → K × V
  entry x = (key x, val x)

  abbrev put_in : List X → List X
  put_in xs = fold (λ zs x. put_by key R x zs) [] xs

  module _ (table rows : List Row) (xs : List X) (same : IsPermutation (map columns table) rows) (named : map read rows ≡ map Some xs) where
    pub entries_put : map entry (put_in xs) ≡ entries (last_of total exact (empty {R = R}) (map entry xs))
    entries_put = put_all_entries total exact key val xs [] empty (sym (empty_of (entries (empty {R = R})) (sym (len-entries empty) ∙ len-empty R V)))

    full_put : length (put_in xs) ≡ length xs → IsFull total exact (empty {R = R}) (map entry xs)
    full_put few =
        let a : len (last_of total exact (empty {R = R}) (map entry xs)) ≡ length (map entry (put_in xs)) = len-entries _ ∙ ap length (sym entries_put) in
        let b : length (map entry (put_in xs)) ≡ length (put_in xs) = length-map _ _ in
        let c : length (map entry xs) ≡ length xs = length-map _ _ in
        omega (arith, a, b, c, few, len-empty R V)

    pub table_map : length (put_in xs) ≡ length xs → last_of total exact (empty {R = R}) (map entry xs) ≡ from_entries {R = R} (filter_map said table)
    table_map few =
        let are = said_are columns read said entry at shown says rows xs named in
        last_is_first total exact (map entry xs) (filter_map said table)
        (λ q v there. shown_in columns read said entry at shown says table rows same (q, v) (subst (λ l. Has l (q, v)) (sym are) there))
        (λ q v there. subst (λ l. Has l (q, v)) are (in_shown columns read said entry at shown says table rows same (q, v) there))
        (one_value total exact empty (map entry xs) (full_put few))

    pub put_is : length (put_in xs) ≡ length xs → put_in xs ≡ filter_map at (entries (from_entries {R = R} (filter_map said table)))
    put_is few =
        let given = each-put_all (λ x. at (entry x) ≡ Some x) key R xs [] (each_given columns read said entry at shown says rows xs named) tt in
        sym (all_back entry at (put_in xs) given) ∙ ap (filter_map at) (entries_put ∙ ap entries (table_map few))

    -- the table has a row for each of them
    pub whole_put_in : length (put_in xs) ≡ length xs → len (from_entries {R = R} (filter_map said table)) ≡ length table
    whole_put_in few =
        let are : len (last_of total exact (empty {R = R}) (map entry xs)) ≡ len (from_entries {R = R} (filter_map said table)) = ap len (table_map few) in
        let a : len (last_of total exact (empty {R = R}) (map entry xs)) ≡ length (map entry (put_in xs)) = len-entries _ ∙ ap length (sym entries_put) in
        let b : length (map entry (put_in xs)) ≡ length (put_in xs) = length-map _ _ in
        let c : length (map read rows) ≡ length rows = length-map _ _ in
        let d : length (map Some xs) ≡ length xs = length-map _ _ in
        let e : length (map read rows) ≡ length (map Some xs) = ap length named in
        let m : length table ≡ length rows = as_many columns table rows same in
        omega (arith, are, a, b, c, d, e, m, few)

    -- and each of its entries is named
    pub entry_named : (k : K) (v : V) → get (from_entries {R = R} (filter_map said table)) k ≡ Some v → IsSome (at (k, v))
    entry_named k v found =
        let there = from_first total exact (filter_map said table) k v (sym (get-from_entries total (filter_map said table) k) ∙ found) in
        let here = in_shown columns read said entry at shown says table rows same (k, v) there in
        let are = said_are columns read said entry at shown says rows xs named in
        let x = has_map entry xs (k, v) (subst (λ l. Has l (k, v)) are here) in
        let given = each_has (λ y. at (entry y) ≡ Some y) xs x.0 (each_given columns read said entry at shown says rows xs named) x.1 in
        ap is_some (ap at x.2 ∙ given)

-- ---- sources

module _ (setup : Lists) (kept : Kept) where
  source_is : (name : List ℕ) (sender number : ℕ) (o : Option Message) (s : SourceIn) → source_by_message name sender number o ≡ Some s → (s.name ≡ name) × (s.sender ≡ sender) × (s.number ≡ number)
  source_is name sender number None s h = absurd (let e = h in cc)
  source_is name sender number (Some message) s h = go (upload_in message.body) h
    where
      go : (u : Option (List ℕ × List ℕ)) → source_as name sender number u ≡ Some s → (s.name ≡ name) × (s.sender ≡ sender) × (s.number ≡ number)
      go None e = absurd (let x = e in cc)
      go (Some u) e = at (bytes_eq u.0 name) refl e
        where
          at : (b : Bool) → bytes_eq u.0 name ≡ b → cond b (Some (record { name = u.0; version = u.1; sender = sender; number = number })) None ≡ Some s → (s.name ≡ name) × (s.sender ≡ sender) × (s.number ≡ number)
          at true is x =
              let same : ◌≡◌ {A = SourceIn} (record { name = u.0; version = u.1; sender = sender; number = number }) s = cc in
              (sym (ap (λ (y : SourceIn). y.name) same) ∙ (bytes_eq-Decides u.0 name).0 is, sym (ap (λ (y : SourceIn). y.sender) same), sym (ap (λ (y : SourceIn). y.number) same))
          at false is x = absurd (let y = x in cc)

  -- a source is named by its own entry
  pub source_keeps : (e : List ℕ × Place) (s : SourceIn) → source_at setup kept e ≡ Some s → source_entry s ≡ e
  unfolding source_at
  source_keeps e s h = let p = source_is e.0 e.1.0 e.1.1 (message_at setup kept e.1.0 e.1.1) s h in λ i. (p.0 i, (p.1 i, p.2 i))

  pub source_tells : (row : Row) (s : SourceIn) → source_of setup kept row ≡ Some s → (source_in row ≡ Some (source_entry s)) × (source_at setup kept (source_entry s) ≡ Some s)
  unfolding source_of
  source_tells row s h = go (source_in row) refl h
    where
      go : (o : Option (List ℕ × Place)) → source_in row ≡ o → source_by_entry setup kept o ≡ Some s → (source_in row ≡ Some (source_entry s)) × (source_at setup kept (source_entry s) ≡ Some s)
      go None is e = absurd (let x = e in cc)
      go (Some n) is e = let k = source_keeps n s e in (is ∙ ap Some (sym k), ap (source_at setup kept) k ∙ e)

  pub sources_are : (table rows : List Row) (xs : List SourceIn) → IsPermutation (map source_columns table) rows → map (source_of setup kept) rows ≡ map Some xs → length (put_all_sources xs []) ≡ length xs
      → put_all_sources xs [] ≡ filter_map (source_at setup kept) (entries (source_map table))
  sources_are table rows xs same named few =
      put_is text_order text_exact (λ (s : SourceIn). s.name) (λ (s : SourceIn). (s.sender, s.number)) source_columns (source_of setup kept) source_in (source_at setup kept) source_shown source_tells table rows xs same named few

  pub sources_back : (table rows : List Row) (xs : List SourceIn) → IsPermutation (map source_columns table) rows → map (source_of setup kept) rows ≡ map Some xs → length (put_all_sources xs []) ≡ length xs
      → IsWhole (source_map table) table × ((name : List ℕ) (p : Place) → get (source_map table) name ≡ Some p → IsSome (source_at setup kept (name, p)))
  sources_back table rows xs same named few = (
    whole_put_in text_order text_exact (λ (s : SourceIn). s.name) (λ (s : SourceIn). (s.sender, s.number)) source_columns (source_of setup kept) source_in (source_at setup kept) source_shown source_tells table rows xs same named few,
    entry_named text_order text_exact (λ (s : SourceIn). s.name) (λ (s : SourceIn). (s.sender, s.number)) source_columns (source_of setup kept) source_in (source_at setup kept) source_shown source_tells table rows xs same named,
  )

  -- ---- rows

  row_is : (archs : List (List ℕ)) (arch : ℕ) (name : List ℕ) (sender number place : ℕ) (o : Option Message) (r : RowIn) → row_by_message archs arch name sender number place o ≡ Some r
      → (r.arch ≡ arch) × (r.binary.name ≡ name) × (r.sender ≡ sender) × (r.number ≡ number) × (r.place ≡ place)
  row_is archs arch name sender number place None r h = absurd (let e = h in cc)
  row_is archs arch name sender number place (Some message) r h = go (binary_in place message.body) h
    where
      go : (b : Option Binary) → row_as archs arch name sender number place b ≡ Some r → (r.arch ≡ arch) × (r.binary.name ≡ name) × (r.sender ≡ sender) × (r.number ≡ number) × (r.place ≡ place)
      go None e = absurd (let x = e in cc)
      go (Some binary) e = at (is_arch_place archs arch) (bytes_eq binary.name name) (bytes_eq (arch_name archs arch) binary.architecture) refl e
        where
          at : (a b c : Bool) → bytes_eq binary.name name ≡ b → cond (a && (b && c)) (Some (record { arch = arch; binary = binary; sender = sender; number = number; place = place })) None ≡ Some r
              → (r.arch ≡ arch) × (r.binary.name ≡ name) × (r.sender ≡ sender) × (r.number ≡ number) × (r.place ≡ place)
          at true true true is x =
              let same : ◌≡◌ {A = RowIn} (record { arch = arch; binary = binary; sender = sender; number = number; place = place }) r = cc in
              (sym (ap (λ (y : RowIn). y.arch) same), sym (ap (λ (y : RowIn). y.binary.name) same) ∙ (bytes_eq-Decides binary.name name).0 is, sym (ap (λ (y : RowIn). y.sender) same), sym (ap (λ (y : RowIn). y.number) same), sym (ap (λ (y : RowIn). y.place) same))
          at true true false is x = absurd (let y = x in cc)
          at true false c is x = absurd (let y = x in cc)
          at false b c is x = absurd (let y = x in cc)

  -- a row is named by its own entry
  pub row_keeps : (e : (ℕ × List ℕ) × (Place × ℕ)) (r : RowIn) → row_at setup kept e ≡ Some r → row_entry r ≡ e
  unfolding row_at
  row_keeps e r h =
      let p = row_is setup.archs e.0.0 e.0.1 e.1.0.0 e.1.0.1 e.1.1 (message_at setup kept e.1.0.0 e.1.0.1) r h in
      λ i. ((p.0 i, p.1 i), ((p.2 i, p.3 i), p.4 i))

  pub row_tells : (row : Row) (r : RowIn) → row_of setup kept row ≡ Some r → (entry_in row ≡ Some (row_entry r)) × (row_at setup kept (row_entry r) ≡ Some r)
  unfolding row_of
  row_tells row r h = go (entry_in row) refl h
    where
      go : (o : Option ((ℕ × List ℕ) × (Place × ℕ))) → entry_in row ≡ o → row_by_entry setup kept o ≡ Some r → (entry_in row ≡ Some (row_entry r)) × (row_at setup kept (row_entry r) ≡ Some r)
      go None is e = absurd (let x = e in cc)
      go (Some n) is e = let k = row_keeps n r e in (is ∙ ap Some (sym k), ap (row_at setup kept) k ∙ e)

  pub rows_are : (table rows : List Row) (xs : List RowIn) → IsPermutation (map entry_columns table) rows → map (row_of setup kept) rows ≡ map Some xs → length (put_all_rows xs []) ≡ length xs
      → put_all_rows xs [] ≡ filter_map (row_at setup kept) (entries (entry_map table))
  rows_are table rows xs same named few =
      put_is row_order row_exact row_key (λ (r : RowIn). ((r.sender, r.number), r.place)) entry_columns (row_of setup kept) entry_in (row_at setup kept) row_shown row_tells table rows xs same named few

  pub rows_back : (table rows : List Row) (xs : List RowIn) → IsPermutation (map entry_columns table) rows → map (row_of setup kept) rows ≡ map Some xs → length (put_all_rows xs []) ≡ length xs
      → IsWhole (entry_map table) table × ((key : ℕ × List ℕ) (value : Place × ℕ) → get (entry_map table) key ≡ Some value → IsSome (row_at setup kept (key, value)))
  rows_back table rows xs same named few = (
    whole_put_in row_order row_exact row_key (λ (r : RowIn). ((r.sender, r.number), r.place)) entry_columns (row_of setup kept) entry_in (row_at setup kept) row_shown row_tells table rows xs same named few,
    entry_named row_order row_exact row_key (λ (r : RowIn). ((r.sender, r.number), r.place)) entry_columns (row_of setup kept) entry_in (row_at setup kept) row_shown row_tells table rows xs same named,
  )

  -- ---- both

  pub testing_is : (sources rows : List Row) (shown_sources shown_rows : List Row) (xs : List SourceIn) (ys : List RowIn) (testing : Suite) → IsPermutation (map source_columns sources) shown_sources → IsPermutation (map entry_columns rows) shown_rows
      → map (source_of setup kept) shown_sources ≡ map Some xs → map (row_of setup kept) shown_rows ≡ map Some ys → IsGathered xs ys testing → testing ≡ suite_in setup kept (source_map sources) (entry_map rows)
  unfolding suite_in
  testing_is sources rows shown_sources shown_rows xs ys testing a b c d it =
      suite_of testing _ _
      (it.sources ∙ sources_are sources shown_sources xs a c (ap length (sym it.sources) ∙ it.all_sources))
      (it.rows ∙ rows_are rows shown_rows ys b d (ap length (sym it.rows) ∙ it.all_rows))

-- rows that are put in order keep to the architectures
pub gathered_known : (archs : List (List ℕ)) (xs : List SourceIn) (ys : List RowIn) (testing : Suite) → AllByRecursion (λ r. IsArchPlace archs r.arch) ys → IsGathered xs ys testing → KnowsArchs archs testing.rows
gathered_known archs xs ys testing each it =
    let all = subst (AllByRecursion (λ (r : RowIn). IsArchPlace archs r.arch)) (sym it.rows) (each-put_all (λ (r : RowIn). IsArchPlace archs r.arch) row_key row_cmp ys [] each tt) in
    record { each = λ row there. All-contains (λ (r : RowIn). IsArchPlace archs r.arch) testing.rows row (All-from_recursion (λ (r : RowIn). IsArchPlace archs r.arch) testing.rows all) there }

pub gathered_on : {F : Type 0} (setup : Lists) (kept : Kept) (sources rows shown_sources shown_rows : List Row) (xs : List SourceIn) (ys : List RowIn) (result : Result Suite F) → IsPermutation (map source_columns sources) shown_sources
    → IsPermutation (map entry_columns rows) shown_rows → map (source_of setup kept) shown_sources ≡ map Some xs → map (row_of setup kept) shown_rows ≡ map Some ys → IfOk result (IsGathered xs ys)
    → IfOk result (λ testing. testing ≡ suite_in setup kept (source_map sources) (entry_map rows))
gathered_on setup kept sources rows ss rs xs ys (Ok t) a b c d it = testing_is setup kept sources rows ss rs xs ys t a b c d it
gathered_on setup kept sources rows ss rs xs ys (Err e) a b c d it = tt

-- each entry of the tables names a message that gives it
pub named_on : {F : Type 0} (setup : Lists) (db : Trees) (shown_sources shown_rows : List Row) (xs : List SourceIn) (ys : List RowIn) (result : Result Suite F) → IsPermutation (map source_columns (db 4)) shown_sources
    → IsPermutation (map entry_columns (db 6)) shown_rows → map (source_of setup (kept_rows (db 1))) shown_sources ≡ map Some xs → map (row_of setup (kept_rows (db 1))) shown_rows ≡ map Some ys → IfOk result (IsGathered xs ys)
    → IfOk result (λ testing. AreNamed setup db)
named_on setup db ss rs xs ys (Ok t) a b c d it =
    let sources = sources_back setup (kept_rows (db 1)) (db 4) ss xs a c (ap length (sym it.sources) ∙ it.all_sources) in
    let rows = rows_back setup (kept_rows (db 1)) (db 6) rs ys b d (ap length (sym it.rows) ∙ it.all_rows) in
    record { sources = sources.0; source = sources.1; rows = rows.0; row = rows.1 }
named_on setup db ss rs xs ys (Err e) a b c d it = tt

pub known_on : {F : Type 0} (archs : List (List ℕ)) (xs : List SourceIn) (ys : List RowIn) (result : Result Suite F) → AllByRecursion (λ r. IsArchPlace archs r.arch) ys → IfOk result (IsGathered xs ys) → IfOk result (λ testing. KnowsArchs archs testing.rows)
known_on archs xs ys (Ok t) each it = gathered_known archs xs ys t each it
known_on archs xs ys (Err e) each it = tt
