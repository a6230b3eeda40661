-- Two lists in order, gone over together.
use Rattle.std.specs.Prelude.{◌≡◌, ℕ, ◌+◌, ◌-◌, ◌≤◌, ◌<◌, ◌⊎◌, List, [], ◌∷◌, ◌++◌, Bool, true, false, ◌&&◌, ◌==◌, not, length, take, cond}
use mathlib.Core.Bool.{beq}
use Rattle.std.specs.declared.cmp.Ordering.{Ordering}
use Rattle.std.specs.declared.cmp.Ordering.TheVariants.{Less, Equal, Greater}
use Rattle.std.specs.Ordering.{ordering_reverse, is_eq, ordering_index}
use Rattle.std.specs.Cmp.{IsTotalOrder}
use Rattle.std.proofs.Common.{refl, sym, ap, subst, ◌∙◌, arith, inl, inr, get_or}
use Rattle.std.proofs.lemmas.Cmp.{nat_list_cmp_total, on_total, then_total}
use Rattle.std.proofs.lemmas.List.Elements.{at_read, filter_more}
use Rattle.std.proofs.lemmas.List.{get_or_read}
use Rattle.std.proofs.lemmas.List.Folds.{list_any_none, list_any_at}
use Rattle.archive_plan.specs.declared.items.Item.{Item}
use Rattle.archive_plan.specs.declared.items.Relation.{Relation}
use Rattle.archive_plan.specs.Items.{key_cmp, AreInOrder, fits, relates, meets, picked_from}
use Rattle.archive_plan.specs.steps.Merge.{ArePassed, IsPlaceFor}

pub key_order : IsTotalOrder key_cmp
key_order = then_total (on_total (λ (x : Item). x.architecture) nat_list_cmp_total) (on_total (λ (x : Item). x.name) nat_list_cmp_total)

apart_below : (r : Relation) (x y : Item) → key_cmp x y ≡ Less → relates r x y ≡ false
apart_below r x y h = ap (λ o. is_eq o && fits r x y) h

apart_above : (r : Relation) (x y : Item) → key_cmp y x ≡ Less → relates r x y ≡ false
apart_above r x y h = ap (λ o. is_eq o && fits r x y) (key_order.antisymm x y ∙ ap ordering_reverse h)

-- x isn't above y, and y is below z
not_above : (x y z : Item) (o : Ordering) → key_cmp x y ≡ o → (key_cmp y x ≡ Less → ⊥) → key_cmp y z ≡ Less → key_cmp x z ≡ Less
not_above x y z Less e h k = key_order.trans x y z e k
not_above x y z Equal e h k = key_order.congr x y z e ∙ k
not_above x y z Greater e h k = absurd (h (key_order.antisymm y x ∙ ap ordering_reverse e))

pub passed_more : (items : List Item) (place : ℕ) (x y : Item) → place < length items → y ≡ get_or items place y → key_cmp y x ≡ Less → ArePassed items place x → ArePassed items (place + 1) x
passed_more items place x y within is less passed = record {
  within = omega arith;
  below = λ k d h.
      elim (let s : (k < place) ⊎ (k ≡ place) = grind arith in s) [
        | inl b ↦ passed.below k d b
        | inr e ↦ rw e (at_read items (λ z. key_cmp z x ≡ Less) place y within is less d)
      ];
}

pub place_here : (items : List Item) (place : ℕ) (x y : Item) → place < length items → y ≡ get_or items place y → (key_cmp y x ≡ Less → ⊥) → ArePassed items place x → IsPlaceFor items place x
place_here items place x y within is other passed = record {
  passed = passed;
  here = λ d _. at_read items (λ z. key_cmp z x ≡ Less → ⊥) place y within is other d;
}

pub place_behind : (items : List Item) (place : ℕ) (x : Item) → length items ≤ place → ArePassed items place x → IsPlaceFor items place x
place_behind items place x past passed = record {
  passed = passed;
  here = λ d h. absurd (omega (arith, past, h));
}

three : (k p : ℕ) → (k < p) ⊎ ((k ≡ p) ⊎ (p < k))
three k p = grind arith

meets_nothing : (r : Relation) (ys : List Item) (place : ℕ) (x y : Item) → AreInOrder ys → IsPlaceFor ys place x → place < length ys → y ≡ get_or ys place y → relates r x y ≡ false → meets r ys x ≡ false
unfolding meets
meets_nothing r ys place x y order at within is other = list_any_none (relates r x) ys (λ k d h.
    elim (three k place) [
      | inl b ↦ apart_above r x _ (at.passed.below k d b)
      | inr s ↦ elim s [
        | inl e ↦ rw e (at_read ys (λ z. relates r x z ≡ false) place y within is other d)
        | inr a ↦ apart_below r x _ (not_above x (get_or ys place d) (get_or ys k d) _ refl (at.here d within) (order place k d a h))
      ]
    ])

meets_one : (r : Relation) (ys : List Item) (place : ℕ) (x y : Item) → place < length ys → y ≡ get_or ys place y → relates r x y ≡ true → meets r ys x ≡ true
unfolding meets
meets_one r ys place x y within is one = list_any_at (relates r x) ys place y within (ap (relates r x) (sym is) ∙ one)

pub meets_here : (r : Relation) (ys : List Item) (place : ℕ) (x y : Item) (b : Bool) → AreInOrder ys → IsPlaceFor ys place x → place < length ys → y ≡ get_or ys place y → b ≡ relates r x y → b ≡ meets r ys x
meets_here r ys place x y true order at within is e = sym (meets_one r ys place x y within is (sym e))
meets_here r ys place x y false order at within is e = sym (meets_nothing r ys place x y order at within is (sym e))

pub meets_none : (r : Relation) (ys : List Item) (place : ℕ) (x : Item) → IsPlaceFor ys place x → length ys ≤ place → false ≡ meets r ys x
unfolding meets
meets_none r ys place x at past = sym (list_any_none (relates r x) ys (λ k d h. apart_above r x _ (at.passed.below k d (omega (arith, h, past)))))

-- what stands before a place of ys is below what stands from i on in xs
pub record AreBehind (ys : List Item) (place : ℕ) (xs : List Item) (i : ℕ) : Type 0 where
  pub within : place ≤ length ys
  pub below : (k j : ℕ) (d e : Item) → k < place → i ≤ j → j < length xs → key_cmp (get_or ys k d) (get_or xs j e) ≡ Less

pub behind_start : (ys xs : List Item) → AreBehind ys 0 xs 0
behind_start ys xs = record {
  within = omega arith;
  below = λ k j d e h _ _. absurd (omega (arith, h));
}

pub passed_now : (ys : List Item) (place : ℕ) (xs : List Item) (i : ℕ) (x : Item) → AreBehind ys place xs i → i < length xs → x ≡ get_or xs i x → ArePassed ys place x
passed_now ys place xs i x behind within is = record {
  within = behind.within;
  below = λ k d h. subst (λ z. key_cmp (get_or ys k d) z ≡ Less) (sym is) (behind.below k i d x h (omega arith) within);
}

pub behind_more : (ys : List Item) (place : ℕ) (xs : List Item) (i : ℕ) (x : Item) → AreInOrder xs → ArePassed ys place x → i < length xs → x ≡ get_or xs i x → AreBehind ys place xs (i + 1)
behind_more ys place xs i x order passed within is = record {
  within = passed.within;
  below = λ k j d e h after end.
      key_order.trans (get_or ys k d) x (get_or xs j e) (passed.below k d h)
      (subst (λ z. key_cmp z (get_or xs j e) ≡ Less) (sym (get_or_read xs i x within is e)) (order i j e (omega (arith, after)) end));
}

pub related : (r : Relation) (x y : Item) (o : Ordering) (b t : Bool) → o ≡ key_cmp x y → t ≡ (ordering_index o == 1) → t ≡ true → b ≡ fits r x y → b ≡ relates r x y
related r x y Less b t e k h f = absurd (let n : false ≡ true = sym k ∙ h in cc)
related r x y Equal b t e k h f = f ∙ ap (λ o. is_eq o && fits r x y) e
related r x y Greater b t e k h f = absurd (let n : false ≡ true = sym k ∙ h in cc)

pub unrelated : (r : Relation) (x y : Item) (o : Ordering) (t : Bool) → o ≡ key_cmp x y → t ≡ (ordering_index o == 1) → t ≡ false → false ≡ relates r x y
unrelated r x y Less t e k h = ap (λ o. is_eq o && fits r x y) e
unrelated r x y Equal t e k h = absurd (let n : true ≡ false = sym k ∙ h in cc)
unrelated r x y Greater t e k h = ap (λ o. is_eq o && fits r x y) e

same_test : (b w : Bool) → cond b w (not w) ≡ beq b w
same_test true true = refl
same_test true false = refl
same_test false true = refl
same_test false false = refl

picked_next : (r : Relation) (w : Bool) (xs ys : List Item) (i : ℕ) (x : Item) → i < length xs → x ≡ get_or xs i x → picked_from r w (take (i + 1) xs) ys ≡ picked_from r w (take i xs) ys ++ cond (cond (meets r ys x) w (not w)) (x ∷ []) []
picked_next r w xs ys i x within is =
    filter_more (λ z. cond (meets r ys z) w (not w)) xs i x within
    ∙ ap (λ z. picked_from r w (take i xs) ys ++ cond (cond (meets r ys z) w (not w)) (z ∷ []) []) (sym is)

pub picked_more : (r : Relation) (w : Bool) (xs ys : List Item) (i : ℕ) (x : Item) (b t : Bool) → i < length xs → x ≡ get_or xs i x → b ≡ meets r ys x → beq b w ≡ t → picked_from r w (take (i + 1) xs) ys ≡ picked_from r w (take i xs) ys ++ cond t (x ∷ []) []
picked_more r w xs ys i x b t within is meets_is test =
    picked_next r w xs ys i x within is
    ∙ ap (λ u. picked_from r w (take i xs) ys ++ cond u (x ∷ []) []) (same_test (meets r ys x) w ∙ ap (λ u. beq u w) (sym meets_is) ∙ test)

-- the items before a place are in order
pub record AreInOrderTo (items : List Item) (place : ℕ) : Type 0 where
  pub some : 1 ≤ place
  pub pairs : (i j : ℕ) (d : Item) → i < j → j < place → j < length items → key_cmp (get_or items i d) (get_or items j d) ≡ Less

pub order_start : (items : List Item) → AreInOrderTo items 1
order_start items = record {
  some = omega arith;
  pairs = λ i j d h k _. absurd (omega (arith, h, k));
}

pub order_more : (items : List Item) (place : ℕ) (x y : Item) → place < length items → x ≡ get_or items (place - 1) x → y ≡ get_or items place y → key_cmp x y ≡ Less → AreInOrderTo items place → AreInOrderTo items (place + 1)
order_more items place x y within is_x is_y less order =
    let one : 1 ≤ place = order.some in
    let before : place - 1 < length items = omega (arith, one, within) in
    let step : (d : Item) → key_cmp (get_or items (place - 1) d) (get_or items place d) ≡ Less = λ d.
    ap (λ z. key_cmp z (get_or items place d)) (sym (get_or_read items (place - 1) x before is_x d)) ∙ ap (key_cmp x) (sym (get_or_read items place y within is_y d)) ∙ less in
    record {
      some = omega (arith, one);
      pairs = λ i j d h k end.
          elim (let s : (j < place) ⊎ (j ≡ place) = grind arith in s) [
            | inl b ↦ order.pairs i j d h b end
            | inr e ↦ elim (let s : (i < place - 1) ⊎ (i ≡ place - 1) = grind arith in s) [
              | inl b ↦ rw e (key_order.trans (get_or items i d) (get_or items (place - 1) d) (get_or items place d) (order.pairs i (place - 1) d b (omega (arith, one)) before) (step d))
              | inr f ↦ rw (e, f) (step d)
            ]
          ];
    }

pub less_from : (o : Ordering) (t : Bool) → t ≡ not (ordering_index o == 0) → t ≡ false → o ≡ Less
less_from Less t e h = refl
less_from Equal t e h = absurd (let n : true ≡ false = sym e ∙ h in cc)
less_from Greater t e h = absurd (let n : true ≡ false = sym e ∙ h in cc)
