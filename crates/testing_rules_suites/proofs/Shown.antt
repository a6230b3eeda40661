-- Changes of flags, and the rows that they show.
use Rattle.std.specs.Prelude.{ℕ, Bool, true, false, ◌&&◌, List, [], ◌∷◌, Contains, Some, map, filter}
use Rattle.std.specs.List.{AllByRecursion, slice_get}
use Rattle.std.specs.List.Sorted.{IsStrictlySortedBy}
use Rattle.std.specs.declared.cmp.Ordering.{Ordering}
use Rattle.std.specs.declared.cmp.Ordering.TheVariants.{Less, Equal, Greater}
use Rattle.std.proofs.Common.{◌≡◌, refl, sym, ap, ◌∙◌, subst, inl, inr, ◌⊎◌}
use Rattle.std.proofs.lemmas.Bool.{false≢true}
use Rattle.std.specs.Ordering.{nat_cmp}
use Rattle.std.proofs.lemmas.Cmp.{on_total, tied_itself}
use Rattle.testing_rules_model.specs.declared.suite.RowIn.{RowIn}
use Rattle.testing_rules_model.specs.InOrder.{AreByKey}
use Rattle.testing_rules_model.specs.Moves.{row_cmp, row_key, put_row}
use Rattle.testing_rules_model.proofs.Least.{from_filter, to_filter}
use Rattle.testing_rules_suites.specs.Present.{IsShown}
use Rattle.testing_rules_suites.proofs.Lost.{row_order, one_for_key}
use Rattle.testing_rules_items.proofs.Members.{none_among, head_of, tail_of}
use Rattle.testing_rules_items.specs.Words.{Text, byte_cmp, put_by}
use Rattle.testing_rules_model.proofs.MoreMail.{nat_tied, text_tied, then_equal}
use Rattle.testing_rules_model.proofs.Ordered.{by_key-put, by_key-kept}
use Rattle.testing_rules_model.proofs.Picks.{Rises}
use Rattle.testing_rules_model.proofs.Sets.{first_or_rest, at_front, rises-unique}

-- rows of which some leave
pub shown-kept : (pool : List RowIn) (stands kept : ℕ → Bool) (test : RowIn → Bool) (rows : List RowIn) → IsShown pool stands rows
    → ((k : ℕ) (r : RowIn) → slice_get pool k ≡ Some r → kept k ≡ (stands k && test r)) → IsShown pool kept (filter test rows)
shown-kept pool stands kept test rows shown is = record {
  by_key = by_key-kept test rows shown.by_key;
  within = λ r c.
      let f = from_filter test rows r c in
      let w = shown.within r f.0 in
      (w.0, w.1, is w.0 r w.1 ∙ ap (λ b. b && test r) w.2 ∙ f.1);
  all = λ k r at h.
      let parts = sym (is k r at) ∙ h in
      to_filter test rows r (shown.all k r at (first_of_both (stands k) (test r) parts)) (second_of_both (stands k) (test r) parts);
}
  where
    first_of_both : (a b : Bool) → (a && b) ≡ true → a ≡ true
    first_of_both true b h = refl
    first_of_both false b h = absurd (false≢true h)

    second_of_both : (a b : Bool) → (a && b) ≡ true → b ≡ true
    second_of_both true b h = h
    second_of_both false b h = absurd (false≢true h)

-- what stands in a list of rows with one put in: the row itself, and those of other keys

put_from_at : (x y r : RowIn) (rows : List RowIn) (o : Ordering) → row_cmp (row_key x) (row_key y) ≡ o → (Contains (put_row x rows) r → (x ≡ r) ⊎ Contains rows r)
    → Contains (put_row x (y ∷ rows)) r → (x ≡ r) ⊎ Contains (y ∷ rows) r
put_from_at x y r rows Less e more c = let d : Contains (x ∷ y ∷ rows) r = rw (put_by, e) at c in first_or_rest x (y ∷ rows) r d
put_from_at x y r rows Equal e more c = let d : Contains (x ∷ rows) r = rw (put_by, e) at c in elim (first_or_rest x rows r d) [ inl own ↦ inl own | inr among ↦ inr (tail_of y rows r among) ]
put_from_at x y r rows Greater e more c = let d : Contains (y ∷ put_row x rows) r = rw (put_by, e) at c in elim (first_or_rest y (put_row x rows) r d) [
  | inl own ↦ inr (at_front y r rows own)
  | inr among ↦ elim (more among) [ inl own ↦ inl own | inr rest ↦ inr (tail_of y rows r rest) ]
]

pub put_from : (x r : RowIn) (rows : List RowIn) → Contains (put_row x rows) r → (x ≡ r) ⊎ Contains rows r
put_from x r [] c = first_or_rest x [] r c
put_from x r (y ∷ rows) c = put_from_at x y r rows _ refl (put_from x r rows) c

put_has_at : (x y : RowIn) (rows : List RowIn) (o : Ordering) → row_cmp (row_key x) (row_key y) ≡ o → Contains (put_row x rows) x → Contains (put_row x (y ∷ rows)) x
put_has_at x y rows Less e more = rw (put_by, e) (head_of x (y ∷ rows))
put_has_at x y rows Equal e more = rw (put_by, e) (head_of x rows)
put_has_at x y rows Greater e more = rw (put_by, e) (tail_of y (put_row x rows) x more)

pub put_has : (x : RowIn) (rows : List RowIn) → Contains (put_row x rows) x
put_has x [] = head_of x []
put_has x (y ∷ rows) = put_has_at x y rows _ refl (put_has x rows)

put_keeps_at : (x y r : RowIn) (rows : List RowIn) (o : Ordering) → row_cmp (row_key x) (row_key y) ≡ o → (row_cmp (row_key x) (row_key r) ≡ Equal → ⊥)
    → (Contains rows r → Contains (put_row x rows) r) → Contains (y ∷ rows) r → Contains (put_row x (y ∷ rows)) r
put_keeps_at x y r rows Less e other more c = rw (put_by, e) (tail_of x (y ∷ rows) r c)
put_keeps_at x y r rows Equal e other more c = elim (first_or_rest y rows r c) [
  | inl own ↦ absurd (other (ap (λ (q : RowIn). row_cmp (row_key x) (row_key q)) (sym own) ∙ e))
  | inr among ↦ rw (put_by, e) (tail_of x rows r among)
]
put_keeps_at x y r rows Greater e other more c = elim (first_or_rest y rows r c) [
  | inl own ↦ rw (put_by, e) (at_front y r (put_row x rows) own)
  | inr among ↦ rw (put_by, e) (tail_of y (put_row x rows) r (more among))
]

pub put_keeps : (x r : RowIn) (rows : List RowIn) → (row_cmp (row_key x) (row_key r) ≡ Equal → ⊥) → Contains rows r → Contains (put_row x rows) r
put_keeps x r [] other c = none_among r c
put_keeps x r (y ∷ rows) other c = put_keeps_at x y r rows _ refl other (put_keeps x r rows other) c

-- rows of the same key have the same architecture and name
key_tied : (a b : ℕ × Text) → row_cmp a b ≡ Equal → a ≡ b
key_tied (a, n) (b, m) e = let h = then_equal (nat_cmp a b) (byte_cmp n m) e in rw (nat_tied a b h.0, text_tied n m h.1) refl

-- the row is another one than the first by its key
abbrev pub IsOther : RowIn → RowIn → Type 0
IsOther x r = row_cmp (row_key x) (row_key r) ≡ Equal → ⊥

itself_or_other_at : (x r : RowIn) (rows : List RowIn) (o : Ordering) → AreByKey rows → Contains rows x → Contains rows r → row_cmp (row_key x) (row_key r) ≡ o → (x ≡ r) ⊎ IsOther x r
itself_or_other_at x r rows Less h c d e = inr (λ t. let no : Less ≡ Equal = sym e ∙ t in let never : ⊥ = cc in never)
itself_or_other_at x r rows Equal h c d e = inl (one_for_key rows h x r c d (key_tied (row_key x) (row_key r) e))
itself_or_other_at x r rows Greater h c d e = inr (λ t. let no : Greater ≡ Equal = sym e ∙ t in let never : ⊥ = cc in never)

pub itself_or_other : (x r : RowIn) (rows : List RowIn) → AreByKey rows → Contains rows x → Contains rows r → (x ≡ r) ⊎ IsOther x r
itself_or_other x r rows h c d = itself_or_other_at x r rows _ h c d refl

-- rows of different keys are others, and rows of the same key aren't
pub other_keys : (x r : RowIn) → (row_key x ≡ row_key r → ⊥) → IsOther x r
other_keys x r h = λ e. h (key_tied (row_key x) (row_key r) e)

pub key_ties : (x r : RowIn) → row_key x ≡ row_key r → row_cmp (row_key x) (row_key r) ≡ Equal
key_ties x r e = ap (row_cmp (row_key x)) (sym e) ∙ tied_itself row_order (row_key x)

-- of the flags the one of a row at a place is put, and those of the rows of its key are taken away
pub record IsPut (pool : List RowIn) (stands put : ℕ → Bool) (n : ℕ) (x : RowIn) : Type 0 where
  pub own : put n ≡ true
  pub from : (k : ℕ) (r : RowIn) → slice_get pool k ≡ Some r → put k ≡ true → (x ≡ r) ⊎ ((stands k ≡ true) × IsOther x r)
  pub to : (k : ℕ) (r : RowIn) → slice_get pool k ≡ Some r → stands k ≡ true → IsOther x r → put k ≡ true

-- rows into which one comes: the row of its key leaves
pub shown-put : (pool : List RowIn) (stands put : ℕ → Bool) (n : ℕ) (x : RowIn) (rows : List RowIn) → slice_get pool n ≡ Some x → IsShown pool stands rows
    → IsPut pool stands put n x → IsShown pool put (put_row x rows)
shown-put pool stands put n x rows at shown is = record {
  by_key = by_key-put x rows shown.by_key;
  within = λ r c. elim (put_from x r rows c) [
    | inl e ↦ (n, at ∙ ap Some e, is.own)
    | inr among ↦ let w = shown.within r among in elim (itself_or_other_at x r (put_row x rows) _ (by_key-put x rows shown.by_key) (put_has x rows) c refl) [
      | inl e ↦ (n, at ∙ ap Some e, is.own)
      | inr other ↦ (w.0, w.1, is.to w.0 r w.1 w.2 other)
    ]
  ];
  all = λ k r here h. elim (is.from k r here h) [
    | inl e ↦ subst (λ q. Contains (put_row x rows) q) e (put_has x rows)
    | inr w ↦ put_keeps x r rows w.1 (shown.all k r here w.0)
  ];
}

-- rows in order by key, and as a list that rises
rising_all : (x : RowIn) (rows : List RowIn) → AllByRecursion (λ k. row_cmp (row_key x) k ≡ Less) (map row_key rows) → AllByRecursion (λ r. row_cmp (row_key x) (row_key r) ≡ Less) rows
rising_all x [] h = tt
rising_all x (y ∷ rows) h = (h.0, rising_all x rows h.1)

pub rising : (rows : List RowIn) → AreByKey rows → Rises (on_total row_key row_order) rows
unfolding IsStrictlySortedBy
rising [] h = tt
rising (x ∷ rows) h = (rising_all x rows h.0, rising rows h.1)

-- the same flags show the same rows
pub shown-same : (pool : List RowIn) (stands : ℕ → Bool) (rows others : List RowIn) → IsShown pool stands rows → IsShown pool stands others → rows ≡ others
shown-same pool stands rows others h q =
    rises-unique (on_total row_key row_order) rows others (rising rows h.by_key) (rising others q.by_key) (
      λ r c. let w = h.within r c in q.all w.0 r w.1 w.2,
      λ r c. let w = q.within r c in h.all w.0 r w.1 w.2,
    )
