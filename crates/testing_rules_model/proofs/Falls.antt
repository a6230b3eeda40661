-- The first of those that also pass a second test: where the first fails it, all fail it.
use Rattle.std.specs.Prelude.{Bool, true, false, cond, ◌&&◌, List, [], ◌∷◌, Option, Some, None, filter, if◌then◌else◌}
use Rattle.std.proofs.Common.{◌≡◌, refl, sym, ap, ◌∙◌}
use Rattle.std.proofs.lemmas.Bool.{false≢true}
use Rattle.std.specs.List.{filter_map, cons_option}
use Rattle.std.specs.declared.cmp.Ordering.{Ordering}
use Rattle.std.specs.Ordering.{is_lt}
use Rattle.testing_rules_items.specs.Words.{lesser, least}
use Rattle.testing_rules_model.proofs.Chosen.{least-passes}

-- the element, where it passes
abbrev pub only_passing : {A : Type 0} → (A → Bool) → Option A → Option A
only_passing l None = None
only_passing l (Some x) = if l x then Some x else None

module _ {A : Type 0} (rank : A → A → Ordering) (asymm : (x y : A) → is_lt (rank x y) ≡ true → is_lt (rank y x) ≡ false) (t l : A → Bool)
    (falls : (x u : A) → t x ≡ true → t u ≡ true → is_lt (rank x u) ≡ false → l u ≡ false → l x ≡ false) where
  abbrev pub both : A → Bool
  both x = t x && l x

  beside : (bx bw less : Bool) (x w : A) → l x ≡ bx → l w ≡ bw → is_lt (rank w x) ≡ less → t x ≡ true → t w ≡ true
      → cond bx (lesser rank x (only_passing l (Some w))) (only_passing l (Some w)) ≡ only_passing l (lesser rank x (Some w))
  beside true true true x w ex ew e tx tw = rw (ew, e, ew) refl
  beside true true false x w ex ew e tx tw = rw (ew, e, ex) refl
  beside true false true x w ex ew e tx tw = absurd (false≢true (sym (falls x w tx tw (asymm w x e) ew) ∙ ex))
  beside true false false x w ex ew e tx tw = rw (ew, e, ex) refl
  beside false bw true x w ex ew e tx tw = rw e refl
  beside false true false x w ex ew e tx tw = absurd (false≢true (sym (falls w x tw tx e ex) ∙ ew))
  beside false false false x w ex ew e tx tw = rw (ew, e, ex) refl

  alone : (bx : Bool) (x : A) → l x ≡ bx → cond bx (Some x) None ≡ only_passing l (Some x)
  alone true x e = rw e refl
  alone false x e = rw e refl

  joined_of : (v : Option A) (x : A) → ((w : A) → v ≡ Some w → t w ≡ true) → t x ≡ true
      → cond (l x) (lesser rank x (only_passing l v)) (only_passing l v) ≡ only_passing l (lesser rank x v)
  joined_of None x p tx = alone _ x refl
  joined_of (Some w) x p tx = beside _ _ _ x w refl refl refl tx (p w refl)

  split : (bx : Bool) (x : A) (xs : List A) → l x ≡ bx → t x ≡ true → least rank (filter both (x ∷ xs)) ≡ cond bx (lesser rank x (least rank (filter both xs))) (least rank (filter both xs))
  split true x xs e tx = rw (tx, e) refl
  split false x xs e tx = rw (tx, e) refl

  keep_at : (b : Bool) (x : A) (xs : List A) → t x ≡ b → least rank (filter both xs) ≡ only_passing l (least rank (filter t xs))
      → least rank (filter both (x ∷ xs)) ≡ only_passing l (least rank (filter t (x ∷ xs)))
  keep_at true x xs e p =
      split _ x xs refl e
      ∙ ap (λ v. cond (l x) (lesser rank x v) v) p
      ∙ joined_of (least rank (filter t xs)) x (least-passes rank t xs) e
      ∙ ap (λ b. only_passing l (least rank (cond b (x ∷ filter t xs) (filter t xs)))) (sym e)
  keep_at false x xs e p = rw e p

  -- the first of those that pass both is the first of those that pass one, or else there is none
  pub least-keep : (xs : List A) → least rank (filter both xs) ≡ only_passing l (least rank (filter t xs))
  least-keep [] = refl
  least-keep (x ∷ xs) = keep_at _ x xs refl (least-keep xs)

module _ {A K : Type 0} (l : A → Bool) (f g : K → Option A) (is : (k : K) → g k ≡ only_passing l (f k)) where
  kept_some : (b : Bool) (x : A) (xs : List A) → l x ≡ b → cons_option (only_passing l (Some x)) (filter l xs) ≡ filter l (x ∷ xs)
  kept_some true x xs e = rw e refl
  kept_some false x xs e = rw e refl

  kept_at : (v : Option A) (xs : List A) → cons_option (only_passing l v) (filter l xs) ≡ filter l (cons_option v xs)
  kept_at None xs = refl
  kept_at (Some x) xs = kept_some _ x xs refl

  -- so for a list of keys those that pass stay
  pub filter_map-keep : (ks : List K) → filter_map g ks ≡ filter l (filter_map f ks)
  filter_map-keep [] = refl
  filter_map-keep (k ∷ ks) = rw (is k, filter_map-keep ks) (kept_at (f k) (filter_map f ks))
