-- What `least` means: an element that none of the others is below.
use Rattle.std.specs.Prelude.{Bool, true, false, List, [], ◌∷◌, Option, Some, None}
use Rattle.std.proofs.Common.{◌≡◌, refl, sym, ap, ◌∙◌, subst}
use Rattle.std.proofs.lemmas.Bool.{false≢true}
use Rattle.std.proofs.lemmas.Cmp.{tied_itself}
use Rattle.std.specs.declared.cmp.Ordering.{Ordering}
use Rattle.std.specs.Ordering.{is_lt}
use Rattle.std.specs.List.{AllByRecursion}
use Rattle.std.specs.Cmp.{IsTotalOrder}
use Rattle.testing_rules_items.specs.Words.{lesser, least}
use Rattle.testing_rules_model.proofs.Orders.{below_trans, not_below_trans}

module _ {A : Type 0} {cmp : A → A → Ordering} (o : IsTotalOrder cmp) where
  -- none of the list is below x
  abbrev pub NoneBelow : A → List A → Type 0
  NoneBelow x xs = AllByRecursion (λ y. is_lt (cmp y x) ≡ false) xs

  not_below_itself : (x : A) → is_lt (cmp x x) ≡ false
  not_below_itself x = ap is_lt (tied_itself o x)

  -- where x is not above w, none that isn't below w is below x
  carried : (xs : List A) (w x : A) → is_lt (cmp w x) ≡ false → NoneBelow w xs → NoneBelow x xs
  carried [] w x h n = tt
  carried (y ∷ ys) w x h n = (not_below_trans o x w y h n.0, carried ys w x h n.1)

  not_both : (b : Bool) (x w : A) → is_lt (cmp w x) ≡ true → is_lt (cmp x w) ≡ b → b ≡ false
  not_both true x w h e = absurd (false≢true (sym (not_below_itself x) ∙ below_trans o x w x e h))
  not_both false x w h e = refl

  at_step : (b : Bool) (z w : A) (zs : List A) → is_lt (cmp w z) ≡ b → NoneBelow w zs
      → (x : A) → lesser cmp z (Some w) ≡ Some x → NoneBelow x (z ∷ zs)
  at_step true z w zs e n x h =
      let k : Some w ≡ Some x = rw e at h in
      let same : w ≡ x = cc in
      subst (λ v. NoneBelow v (z ∷ zs)) same (not_both _ z w e refl, n)
  at_step false z w zs e n x h =
      let k : Some z ≡ Some x = rw e at h in
      let same : z ≡ x = cc in
      subst (λ v. NoneBelow v (z ∷ zs)) same (not_below_itself z, carried zs w z e n)

  lesser_value : (y : A) (m : Option A) → (v : A) × (lesser cmp y m ≡ Some v)
  lesser_value y None = (y, refl)
  lesser_value y (Some w) = (_, refl)

  -- none of the list is below its first element
  pub least-none_below : (xs : List A) (x : A) → least cmp xs ≡ Some x → NoneBelow x xs
  least-none_below [] x h = tt
  least-none_below (z ∷ []) x h =
      let same : z ≡ x = cc in
      subst (λ v. NoneBelow v (z ∷ [])) same (not_below_itself z, tt)
  least-none_below (z ∷ y ∷ ys) x h =
      let rest = lesser_value y (least cmp ys) in
      at_step _ z rest.0 (y ∷ ys) refl (least-none_below (y ∷ ys) rest.0 rest.1) x (ap (lesser cmp z) (sym rest.1) ∙ h)
