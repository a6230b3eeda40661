-- Lists of boxes, seen as what the boxes hold.
use Rattle.std.specs.Prelude.{ℕ, ◌<◌, List, length, get_or, set, Box, Result}
use Rattle.std.proofs.Common.{◌≡◌, sym, ap, ◌∙◌}
use Rattle.std.specs.List.{insert}
use Rattle.std.specs.List.Sorted.{IsBinarySearchResult, IsSearchInRange}
use Rattle.std.specs.declared.alloc.Global.{Global}
use Rattle.std.specs.declared.cmp.Ordering.{Ordering}
use Rattle.std.proofs.lemmas.List.{map-set, get_or-map, length-map}
use Rattle.testing_rules_model.specs.Boxed.{unboxed}
use Rattle.testing_rules_items.proofs.Mapped.{mapped-insert, mapped-found, mapped-bound}

module _ {A : Type 0} where
  abbrev held : Box A Global → A
  held b = b.value

  -- one that is read at a place
  pub unboxed-at : (bs : List (Box A Global)) (i : ℕ) (d : Box A Global) (e : A) → i < length bs → d ≡ get_or bs i d → get_or (unboxed bs) i e ≡ d.value
  unboxed-at bs i d e h is = get_or-map held bs i d e h ∙ ap held (sym is)

  pub unboxed-length : (bs : List (Box A Global)) → length (unboxed bs) ≡ length bs
  unboxed-length bs = length-map bs held

  -- one that is written over or put in
  pub unboxed-set : (bs : List (Box A Global)) (i : ℕ) (b : Box A Global) → unboxed (set bs i b) ≡ set (unboxed bs) i b.value
  unboxed-set bs i b = map-set held bs i b

  pub unboxed-insert : (bs : List (Box A Global)) (i : ℕ) (b : Box A Global) → unboxed (insert bs i b) ≡ insert (unboxed bs) i b.value
  unboxed-insert bs i b = mapped-insert held bs i b

  -- a binary search of the boxes is one of what they hold
  pub unboxed-found : (ord : A → Ordering) (bs : List (Box A Global)) (r : Result ℕ ℕ) → IsSearchInRange r (length bs)
      → IsBinarySearchResult (λ (b : Box A Global). ord b.value) bs r → IsBinarySearchResult ord (unboxed bs) r
  unboxed-found ord bs r h f = mapped-found held ord bs r h f

  pub unboxed-bound : (bs : List (Box A Global)) (r : Result ℕ ℕ) → IsSearchInRange r (length bs) → IsSearchInRange r (length (unboxed bs))
  unboxed-bound bs r h = mapped-bound held bs r h
