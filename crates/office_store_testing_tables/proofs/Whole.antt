-- Tables of which each row has an entry of its own.
use Rattle.std.proofs.Common.{◌≡◌, ◌≤◌, ◌+◌, inl, inr, ℕ, List, [], ◌∷◌, filter, filter_map, length, Bool, true, false, cond, Option, Some, None, refl, sym, ap, ◌∙◌, arith, is_some}
use Rattle.std.proofs.lemmas.Cmp.{tied_itself}
use Rattle.std.specs.Cmp.{IsTotalOrder}
use Rattle.std.specs.List.{cons_option}
use Rattle.std.specs.declared.cmp.Ordering.{Ordering}
use Rattle.std.specs.Ordering.{eq_by_cmp, is_eq, match_ordering}
use Rattle.std.specs.FinMap.{FinMap, IsAntisymmetric, get, insert, len, from_entries, contains_key, get-insert, len-insert, len-empty}
use Rattle.sqlite.specs.Order.{Row, value_cmp}
use Rattle.sqlite_rules.specs.Lists.{Has}
use Rattle.office_mail.proofs.KeptFacts.{places_total, exact_places}
use Rattle.office_store_testing_tables.specs.Tables.{letter_in, kept_rows}
use Rattle.office_store_testing_tables.specs.steps.TableSteps.{AreLetters, AreApart, IsCrowded}
use Rattle.office_store_testing_tables.specs.Legible.{IsWhole}
use Rattle.office_store_testing_tables.proofs.LetterFacts.{at_place}
use Rattle.office_store_testing_tables.proofs.KeyedFacts.{tied, map_put}
use Rattle.std.proofs.lemmas.Bool.{or_parts}
use Rattle.std.specs.declared.cmp.Ordering.TheVariants.{Less, Equal, Greater}
use Rattle.sqlite.specs.Tree.{put_row, rowid}
use Rattle.sqlite_rules.specs.Edit.{is_taken}

no_more : (b : Bool) (n : ℕ) → cond b n (n + 1) ≤ n + 1
no_more true n = omega arith
no_more false n = omega arith

module _ {K V : Type 0} {R : K → K → Ordering} (total : IsTotalOrder R) (exact : IsAntisymmetric R) (read : Row → Option (K × V)) where
  abbrev pub map_of : List Row → FinMap R V
  map_of rows = from_entries (filter_map read rows)

  grown : (o : Option (K × V)) (es : List (K × V)) → len (from_entries {R = R} (cons_option o es)) ≤ len (from_entries {R = R} es) + 1
  grown None es = omega arith
  grown (Some e) es = omega (arith, len-insert total (from_entries {R = R} es) e.0 e.1, no_more (contains_key (from_entries {R = R} es) e.0) (len (from_entries {R = R} es)))

  -- a table has no fewer rows than entries
  pub at_most : (rows : List Row) → len (map_of rows) ≤ length rows
  at_most [] = omega (arith, len-empty R V)
  at_most (row ∷ rows) = omega (arith, grown (read row) (filter_map read rows), at_most rows)

  not_some : (o : Option V) → is_some o ≡ false → o ≡ None
  not_some None h = refl
  not_some (Some v) h = absurd (let e = h in cc)

  -- the first row reads, under a key that no later one has
  pub whole_step : (row : Row) (rows : List Row) → len (map_of (row ∷ rows)) ≡ length (row ∷ rows) → (e : K × V) × (read row ≡ Some e) × (get (map_of rows) e.0 ≡ None) × (len (map_of rows) ≡ length rows)
  whole_step row rows whole = go (read row) refl
    where
      go : (o : Option (K × V)) → read row ≡ o → (e : K × V) × (read row ≡ Some e) × (get (map_of rows) e.0 ≡ None) × (len (map_of rows) ≡ length rows)
      go None is =
          let same : len (map_of (row ∷ rows)) ≡ len (map_of rows) = ap (λ o. len (from_entries {R = R} (cons_option o (filter_map read rows)))) is in
          absurd (omega (arith, whole, same, at_most rows))
      go (Some e) is = at (contains_key (map_of rows) e.0) refl
        where
          same : len (map_of (row ∷ rows)) ≡ len (insert (map_of rows) e.0 e.1)
          same = ap (λ o. len (from_entries {R = R} (cons_option o (filter_map read rows)))) is

          at : (b : Bool) → contains_key (map_of rows) e.0 ≡ b → (x : K × V) × (read row ≡ Some x) × (get (map_of rows) x.0 ≡ None) × (len (map_of rows) ≡ length rows)
          at true there = let l : len (insert (map_of rows) e.0 e.1) ≡ len (map_of rows) = len-insert total (map_of rows) e.0 e.1 ∙ ap (λ b. cond b (len (map_of rows)) (len (map_of rows) + 1)) there in absurd (omega (arith, whole, same, l, at_most rows))
          at false none = let l : len (insert (map_of rows) e.0 e.1) ≡ len (map_of rows) + 1 = len-insert total (map_of rows) e.0 e.1 ∙ ap (λ b. cond b (len (map_of rows)) (len (map_of rows) + 1)) none in
              (e, is, not_some (get (map_of rows) e.0) none, omega (arith, whole, same, l))

  -- each row reads
  pub whole_reads : (rows : List Row) → len (map_of rows) ≡ length rows → (row : Row) → Has rows row → (e : K × V) × (read row ≡ Some e)
  whole_reads [] whole row there = absurd there
  whole_reads (r ∷ rows) whole row (inl same) = let s = whole_step r rows whole in (s.0, ap read same ∙ s.1)
  whole_reads (r ∷ rows) whole row (inr there) = whole_reads rows (whole_step r rows whole).3 row there

  -- what stands under another key stays when one is put in under a free one
  past : (m : FinMap R V) (f : K × V) (q : K) (v : V) → get m f.0 ≡ None → get m q ≡ Some v → get (insert m f.0 f.1) q ≡ Some v
  past m f q v none there = get-insert total m f.0 f.1 q ∙ under (eq_by_cmp R q f.0) refl
    where
      under : (b : Bool) → eq_by_cmp R q f.0 ≡ b → cond b (Some f.1) (get m q) ≡ Some v
      under true is = absurd (let e : Some v ≡ None = sym there ∙ ap (get m) (exact q f.0 (tied (R q f.0) is)) ∙ none in cc)
      under false is = there

  -- each row's value is the one that stands under its key
  pub whole_gets : (rows : List Row) → len (map_of rows) ≡ length rows → (row : Row) (e : K × V) → Has rows row → read row ≡ Some e → get (map_of rows) e.0 ≡ Some e.1
  whole_gets [] whole row e there is = absurd there
  whole_gets (r ∷ rows) whole row e (inl same) is =
      ap (λ o. get (from_entries {R = R} (cons_option o (filter_map read rows))) e.0) (ap read (sym same) ∙ is)
      ∙ get-insert total (map_of rows) e.0 e.1 e.0
      ∙ ap (λ b. cond b (Some e.1) (get (map_of rows) e.0)) (ap is_eq (tied_itself total e.0))
  whole_gets (r ∷ rows) whole row e (inr there) is =
      let s = whole_step r rows whole in
      ap (λ o. get (from_entries {R = R} (cons_option o (filter_map read rows))) e.0) s.1 ∙ past (map_of rows) s.0 e.0 e.1 s.2 (whole_gets rows s.3 row e there is)

  -- ---- the rows of one key

  module _ (key : K) (here : Row → Bool) (is_here : (row : Row) (p : K) (v : V) → read row ≡ Some (p, v) → eq_by_cmp R key p ≡ here row) where
    none_here : (rows : List Row) → len (map_of rows) ≡ length rows → get (map_of rows) key ≡ None → length (filter here rows) ≡ 0
    none_here [] whole free = refl
    none_here (row ∷ rows) whole free =
        let s = whole_step row rows whole in
        go s (here row) refl (none_here rows s.3)
      where
        go : ((e : K × V) × (read row ≡ Some e) × (get (map_of rows) e.0 ≡ None) × (len (map_of rows) ≡ length rows)) → (b : Bool) → here row ≡ b
            → (get (map_of rows) key ≡ None → length (filter here rows) ≡ 0) → length (cond b (row ∷ filter here rows) (filter here rows)) ≡ 0
        go s b is before =
            let split : get (map_of (row ∷ rows)) key ≡ cond (eq_by_cmp R key s.0.0) (Some s.0.1) (get (map_of rows) key) =
            ap (λ o. get (from_entries {R = R} (cons_option o (filter_map read rows))) key) s.1 ∙ get-insert total (map_of rows) s.0.0 s.0.1 key in
            let same : eq_by_cmp R key s.0.0 ≡ b = is_here row s.0.0 s.0.1 s.1 ∙ is in
            under b (ap (λ t. cond t (Some s.0.1) (get (map_of rows) key)) (sym same) ∙ sym split ∙ free)
          where
            under : (t : Bool) → cond t (Some s.0.1) (get (map_of rows) key) ≡ None → length (cond t (row ∷ filter here rows) (filter here rows)) ≡ 0
            under true none = absurd (let e = none in cc)
            under false none = before none

    -- no key has two rows
    pub one_here : (rows : List Row) → len (map_of rows) ≡ length rows → length (filter here rows) ≤ 1
    one_here [] whole = omega arith
    one_here (row ∷ rows) whole =
        let s = whole_step row rows whole in
        go s (here row) refl (one_here rows s.3)
      where
        go : ((e : K × V) × (read row ≡ Some e) × (get (map_of rows) e.0 ≡ None) × (len (map_of rows) ≡ length rows)) → (b : Bool) → here row ≡ b
            → length (filter here rows) ≤ 1 → length (cond b (row ∷ filter here rows) (filter here rows)) ≤ 1
        go s false is before = before
        go s true is before =
            let same : key ≡ s.0.0 = exact key s.0.0 (tied (R key s.0.0) (is_here row s.0.0 s.0.1 s.1 ∙ is)) in
            omega (arith, none_here rows s.3 (ap (get (map_of rows)) same ∙ s.2))

-- ---- mail

pub letters_apart : (rows : List Row) → len (kept_rows rows) ≡ length rows → AreLetters rows × AreApart rows
letters_apart rows whole = (
  λ row there. whole_reads places_total exact_places letter_in rows whole row there,
  λ sender number. one_here places_total exact_places letter_in (sender, number) _ (at_place sender number) rows whole,
)

-- mail of which each row has a place of its own is as an office keeps it
pub not_crowded : (rows : List Row) → IsWhole (kept_rows rows) rows → IsCrowded rows → ⊥
not_crowded rows whole crowded = let kept = letters_apart rows whole in crowded kept.0 kept.1

-- Tables that stay whole where a row is put in.

-- a row with a rowid of its own makes the table one longer
pub length_put : (row : Row) (rows : List Row) → is_taken rows row ≡ false → length (put_row row rows) ≡ length rows + 1
length_put row [] fresh = refl
length_put row (r ∷ rows) fresh =
    let parts = or_parts _ _ fresh in
    go (value_cmp (rowid r) (rowid row)) parts.0 (length_put row rows parts.1)
  where
    go : (o : Ordering) → is_eq o ≡ false → length (put_row row rows) ≡ length rows + 1 → length (match_ordering o (r ∷ put_row row rows) (row ∷ rows) (row ∷ r ∷ rows)) ≡ length (r ∷ rows) + 1
    go Less other h = omega (arith, h)
    go Equal other h = absurd (let e = other in cc)
    go Greater other h = omega arith

module _ {K V : Type 0} {R : K → K → Ordering} (total : IsTotalOrder R) (exact : IsAntisymmetric R) (read : Row → Option (K × V)) where
  -- an entry under a new key makes the map one longer
  pub len_more : (m : FinMap R V) (k : K) (v : V) → get m k ≡ None → len (insert m k v) ≡ len m + 1
  len_more m k v free = len-insert total m k v ∙ ap (λ o. cond (is_some o) (len m) (len m + 1)) free

  -- a row that is put in under a new key leaves the table whole
  pub whole_put : (row : Row) (p : K) (v : V) (rows : List Row) → read row ≡ Some (p, v) → is_taken rows row ≡ false → get (from_entries {R = R} (filter_map read rows)) p ≡ None → len (from_entries {R = R} (filter_map read rows)) ≡ length rows
      → len (from_entries {R = R} (filter_map read (put_row row rows))) ≡ length (put_row row rows)
  whole_put row p v rows is fresh free whole =
      let grown : len (from_entries {R = R} (filter_map read (put_row row rows))) ≡ len (from_entries {R = R} (filter_map read rows)) + 1 =
      ap len (map_put total exact read row p v rows is fresh free) ∙ len_more (from_entries {R = R} (filter_map read rows)) p v free in
      omega (arith, grown, whole, length_put row rows fresh)
