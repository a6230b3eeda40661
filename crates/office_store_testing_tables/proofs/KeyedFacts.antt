-- Rows that say a value under a key.
use Rattle.std.proofs.Common.{◌≡◌, List, [], ◌∷◌, filter, filter_map, Bool, true, false, cond, Option, Some, None, refl, sym, ap, ◌∙◌}
use Rattle.std.proofs.lemmas.Bool.{or_parts}
use Rattle.std.proofs.lemmas.Cmp.{tied_itself}
use Rattle.std.specs.Cmp.{IsTotalOrder}
use Rattle.std.specs.declared.cmp.Ordering.{Ordering}
use Rattle.std.specs.declared.cmp.Ordering.TheVariants.{Less, Equal, Greater}
use Rattle.std.specs.Ordering.{eq_by_cmp, is_eq, match_ordering}
use Rattle.std.specs.List.{cons_option}
use Rattle.std.specs.FinMap.{FinMap, IsAntisymmetric, find, get, insert, from_entries, get-from_entries, get-insert, same_map}
use Rattle.sqlite.specs.Order.{Row, value_cmp}
use Rattle.sqlite.specs.Tree.{put_row, rowid}
use Rattle.sqlite_rules.specs.Edit.{is_taken}

pub tied : (o : Ordering) → is_eq o ≡ true → o ≡ Equal
tied Less h = absurd (let e = h in cc)
tied Equal h = refl
tied Greater h = absurd (let e = h in cc)

module _ {K V : Type 0} {R : K → K → Ordering} (total : IsTotalOrder R) (exact : IsAntisymmetric R) (read : Row → Option (K × V)) where
  -- the rows as a map: under each key the value of its first row
  abbrev pub map_of : List Row → FinMap R V
  map_of rows = from_entries (filter_map read rows)

  -- ---- a look-up needs the rows of its key alone

  module _ (key : K) (at : Row → Bool) (is_at : (row : Row) (p : K) (v : V) → read row ≡ Some (p, v) → eq_by_cmp R key p ≡ at row) where
    head_kept : (o : Option (K × V)) (es fs : List (K × V)) → find R key es ≡ find R key fs → find R key (cons_option o es) ≡ find R key (cons_option o fs)
    head_kept None es fs h = h
    head_kept (Some e) es fs h = ap (cond (eq_by_cmp R key e.0) (Some e.1)) h

    head_dropped : (row : Row) (o : Option (K × V)) (es fs : List (K × V)) → read row ≡ o → at row ≡ false → find R key es ≡ find R key fs → find R key (cons_option o es) ≡ find R key fs
    head_dropped row None es fs is other h = h
    head_dropped row (Some e) es fs is other h = ap (λ b. cond b (Some e.1) (find R key es)) (is_at row e.0 e.1 is ∙ other) ∙ h

    pub found_at : (rows : List Row) → find R key (filter_map read rows) ≡ find R key (filter_map read (filter at rows))
    found_at [] = refl
    found_at (row ∷ rows) = go (at row) refl (found_at rows)
      where
        go : (b : Bool) → at row ≡ b → find R key (filter_map read rows) ≡ find R key (filter_map read (filter at rows))
            → find R key (filter_map read (row ∷ rows)) ≡ find R key (filter_map read (cond b (row ∷ filter at rows) (filter at rows)))
        go true is h = head_kept (read row) (filter_map read rows) (filter_map read (filter at rows)) h
        go false is h = head_dropped row (read row) (filter_map read rows) (filter_map read (filter at rows)) refl is h

    pub get_at : (rows : List Row) → get (map_of rows) key ≡ find R key (filter_map read (filter at rows))
    get_at rows = get-from_entries total (filter_map read rows) key ∙ found_at rows

  pub found_one : (key : K) (row : Row) (v : V) → read row ≡ Some (key, v) → find R key (filter_map read (row ∷ [])) ≡ Some v
  found_one key row v is = ap (λ o. find R key (cons_option o [])) is ∙ ap (λ b. cond b (Some v) None) (ap is_eq (tied_itself total key))

  -- ---- one row more

  no_both : (q p e : K) → eq_by_cmp R q p ≡ true → eq_by_cmp R p e ≡ false → eq_by_cmp R q e ≡ false
  no_both q p e same other = ap (λ k. eq_by_cmp R k e) (exact q p (tied (R q p) same)) ∙ other

  module _ (row : Row) (p : K) (v : V) (q : K) where
    abbrev Put : List (K × V) → Option V
    Put es = cond (eq_by_cmp R q p) (Some v) (find R q es)

    two_heads : (b c : Bool) (x : V) (o : Option V) → (b ≡ true → c ≡ false) → cond c (Some x) (cond b (Some v) o) ≡ cond b (Some v) (cond c (Some x) o)
    two_heads true true x o apart = absurd (let e = apart refl in cc)
    two_heads true false x o apart = refl
    two_heads false c x o apart = refl

    first_free : (b : Bool) (x : V) (o : Option V) → cond b (Some x) o ≡ None → (b ≡ false) × (o ≡ None)
    first_free true x o h = absurd (let e = h in cc)
    first_free false x o h = (refl, h)

    rest_free : (o : Option (K × V)) (es : List (K × V)) → find R p (cons_option o es) ≡ None → find R p es ≡ None
    rest_free None es h = h
    rest_free (Some e) es h = (first_free (eq_by_cmp R p e.0) e.1 (find R p es) h).1

    below : (o : Option (K × V)) (es fs : List (K × V)) → find R p (cons_option o es) ≡ None → find R q fs ≡ Put es → find R q (cons_option o fs) ≡ Put (cons_option o es)
    below None es fs free h = h
    below (Some e) es fs free h =
        ap (cond (eq_by_cmp R q e.0) (Some e.1)) h
        ∙ two_heads (eq_by_cmp R q p) (eq_by_cmp R q e.0) e.1 (find R q es) (λ same. no_both q p e.0 same (first_free (eq_by_cmp R p e.0) e.1 (find R p es) free).0)

    pub put_found : (rows : List Row) → read row ≡ Some (p, v) → is_taken rows row ≡ false → find R p (filter_map read rows) ≡ None → find R q (filter_map read (put_row row rows)) ≡ Put (filter_map read rows)
    put_found [] is fresh free = ap (λ o. find R q (cons_option o [])) is
    put_found (r ∷ rows) is fresh free =
        let parts = or_parts _ _ fresh in
        go (value_cmp (rowid r) (rowid row)) parts.0 (put_found rows is parts.1 (rest_free (read r) (filter_map read rows) free))
      where
        go : (o : Ordering) → is_eq o ≡ false → find R q (filter_map read (put_row row rows)) ≡ Put (filter_map read rows)
            → find R q (filter_map read (match_ordering o (r ∷ put_row row rows) (row ∷ rows) (row ∷ r ∷ rows))) ≡ Put (filter_map read (r ∷ rows))
        go Less other h = below (read r) (filter_map read rows) (filter_map read (put_row row rows)) free h
        go Equal other h = absurd (let e = other in cc)
        go Greater other h = ap (λ o. find R q (cons_option o (filter_map read (r ∷ rows)))) is

  -- a row that is put in has its value under its key
  pub map_put : (row : Row) (p : K) (v : V) (rows : List Row) → read row ≡ Some (p, v) → is_taken rows row ≡ false → get (map_of rows) p ≡ None → map_of (put_row row rows) ≡ insert (map_of rows) p v
  map_put row p v rows is fresh free =
      let empty : find R p (filter_map read rows) ≡ None = sym (get-from_entries total (filter_map read rows) p) ∙ free in
      same_map total exact (map_of (put_row row rows)) (insert (map_of rows) p v) (λ q.
      get-from_entries total (filter_map read (put_row row rows)) q
      ∙ put_found row p v q rows is fresh empty
      ∙ sym (get-insert total (map_of rows) p v q ∙ ap (cond (eq_by_cmp R q p) (Some v)) (get-from_entries total (filter_map read rows) q)))
