-- The first of each key among those that pass a test, with one more element.
use Rattle.std.specs.Prelude.{Bool, true, false, ◌||◌, List, [], ◌∷◌, Option, Some, None, filter, map}
use Rattle.std.proofs.Common.{◌≡◌, refl, sym, ap, ◌∙◌, subst}
use Rattle.std.proofs.lemmas.Bool.{false≢true}
use Rattle.std.proofs.lemmas.Cmp.{tied_itself}
use Rattle.std.specs.List.{filter_map}
use Rattle.std.specs.declared.cmp.Ordering.{Ordering}
use Rattle.std.specs.declared.cmp.Ordering.TheVariants.{Equal}
use Rattle.std.specs.Ordering.{is_lt, is_eq}
use Rattle.std.specs.Cmp.{IsTotalOrder}
use Rattle.testing_rules_items.specs.Words.{lesser, least, put_by, sorted_by}
use Rattle.testing_rules_model.specs.WithMessage.{put_first}
use Rattle.testing_rules_model.proofs.Picks.{has_key, rises-sorted, put_picked, has_key-put, put-skip}

module _ {A : Type 0} (rank : A → A → Ordering) (t : A → Bool) where
  lesser_test : (b : Bool) (x w u : A) → is_lt (rank w x) ≡ b → t x ≡ true → t w ≡ true → lesser rank x (Some w) ≡ Some u → t u ≡ true
  lesser_test true x w u e h k is =
      let at : Some w ≡ Some u = rw e at is in
      let same : w ≡ u = cc in
      subst (λ v. t v ≡ true) same k
  lesser_test false x w u e h k is =
      let at : Some x ≡ Some u = rw e at is in
      let same : x ≡ u = cc in
      subst (λ v. t v ≡ true) same h

  lesser_of : (v : Option A) (x u : A) → t x ≡ true → ((w : A) → v ≡ Some w → t w ≡ true) → lesser rank x v ≡ Some u → t u ≡ true
  lesser_of None x u h p is =
      let same : x ≡ u = cc in
      subst (λ v. t v ≡ true) same h
  lesser_of (Some w) x u h p is = lesser_test _ x w u refl h (p w refl) is

  passes_at : (b : Bool) (x u : A) (xs : List A) → t x ≡ b → ((w : A) → least rank (filter t xs) ≡ Some w → t w ≡ true) → least rank (filter t (x ∷ xs)) ≡ Some u → t u ≡ true
  passes_at true x u xs e p is = lesser_of (least rank (filter t xs)) x u e p (rw e at is)
  passes_at false x u xs e p is = p u (rw e at is)

  -- the first of those that pass passes
  pub least-passes : (xs : List A) (u : A) → least rank (filter t xs) ≡ Some u → t u ≡ true
  least-passes [] u is = let no : None ≡ Some u = is in cc
  least-passes (x ∷ xs) u is = passes_at _ x u xs refl (least-passes xs) is

module _ {K : Type 0} {cmp : K → K → Ordering} (o : IsTotalOrder cmp) (tied : (j k : K) → cmp j k ≡ Equal → j ≡ k)
    {A : Type 0} (key : A → K) (rank : A → A → Ordering) (test : K → A → Bool) (of_key : (k : K) (x : A) → test k x ≡ true → key x ≡ k) where
  -- the first of a key, and those of all keys
  abbrev pub pick : List A → K → Option A
  pick xs k = least rank (filter (test k) xs)

  abbrev pub chosen : List A → List A
  chosen xs = filter_map (pick xs) (sorted_by (λ k. k) cmp (map key xs))

  pub keyed : (xs : List A) (k : K) (u : A) → pick xs k ≡ Some u → key u ≡ k
  keyed xs k u is = of_key k u (least-passes rank (test k) xs u is)

  off_key_at : (b : Bool) (k : K) (x : A) → test k x ≡ b → is_eq (cmp (key x) k) ≡ false → test k x ≡ false
  off_key_at true k x e h = absurd (false≢true (sym h ∙ ap is_eq (ap (λ j. cmp j k) (of_key k x e) ∙ tied_itself o k)))
  off_key_at false k x e h = e

  off_key : (k : K) (x : A) → is_eq (cmp (key x) k) ≡ false → test k x ≡ false
  off_key k x h = off_key_at _ k x refl h

  off_key_back_at : (b : Bool) (k : K) (x : A) → test k x ≡ b → is_eq (cmp k (key x)) ≡ false → test k x ≡ false
  off_key_back_at true k x e h = absurd (false≢true (sym h ∙ ap is_eq (ap (cmp k) (of_key k x e) ∙ tied_itself o k)))
  off_key_back_at false k x e h = e

  pick-other : (k : K) (m : A) (xs : List A) → test k m ≡ false → pick (m ∷ xs) k ≡ pick xs k
  pick-other k m xs e = rw e refl

  pick-own : (k : K) (m : A) (xs : List A) → test k m ≡ true → pick (m ∷ xs) k ≡ lesser rank m (pick xs k)
  pick-own k m xs e = rw e refl

  both_false : (a b : Bool) → (a || b) ≡ false → (a ≡ false) × (b ≡ false)
  both_false true b h = absurd (false≢true (sym h))
  both_false false b h = (refl, h)

  -- none of a key that no element has
  pub absent : (k : K) (xs : List A) → has_key o k (sorted_by (λ j. j) cmp (map key xs)) ≡ false → pick xs k ≡ None
  absent k [] h = refl
  absent k (x ∷ xs) h =
      let apart = both_false _ _ (sym (has_key-put o tied k (key x) (sorted_by (λ j. j) cmp (map key xs))) ∙ h) in
      pick-other k x xs (off_key_back_at _ k x refl apart.0) ∙ absent k xs apart.1

  -- one more element that passes is put where it is the first of its key
  pub chosen-put : (m : A) (xs : List A) → test (key m) m ≡ true → chosen (m ∷ xs) ≡ put_first key cmp rank m (chosen xs)
  chosen-put m xs e =
      let ks = sorted_by (λ k. k) cmp (map key xs) in
      put_picked o key rank tied (pick xs) (pick (m ∷ xs)) m (keyed xs) (pick-own (key m) m xs e) (λ k h. pick-other k m xs (off_key k m h))
      ks (rises-sorted o (map key xs)) (absent (key m) xs)

  same-map : (f g : K → Option A) → ((k : K) → g k ≡ f k) → (ks : List K) → filter_map g ks ≡ filter_map f ks
  same-map f g h [] = refl
  same-map f g h (k ∷ ks) = rw (h k, same-map f g h ks) refl

  -- one that passes for no key changes nothing
  pub chosen-skip : (m : A) (xs : List A) → ((k : K) → test k m ≡ false) → chosen (m ∷ xs) ≡ chosen xs
  chosen-skip m xs e =
      let ks = sorted_by (λ k. k) cmp (map key xs) in
      same-map (pick xs) (pick (m ∷ xs)) (λ k. pick-other k m xs (e k)) (put_by (λ k. k) cmp (key m) ks)
      ∙ put-skip o tied (pick xs) (key m) ks (rises-sorted o (map key xs)) (absent (key m) xs)
