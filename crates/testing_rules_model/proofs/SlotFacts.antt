-- The end of a search for the slot of an element.
use Rattle.std.specs.Prelude.{ℕ, suc, ◌<◌, true, false, cond, List, ◌∷◌, ◌++◌, length, take, drop, get_or, set}
use Rattle.std.proofs.Common.{◌≡◌, sym, ap, ◌∙◌}
use Rattle.std.proofs.lemmas.List.{set_split, set-get_or}
use Rattle.std.proofs.Math.Seq.{drop-cons}
use Rattle.std.specs.declared.cmp.Ordering.{Ordering}
use Rattle.std.specs.declared.cmp.Ordering.TheVariants.{Less, Equal, Greater}
use Rattle.std.specs.Ordering.{is_lt}
use Rattle.testing_rules_model.specs.WithMessage.{put_first}

module _ {A K : Type 0} (key : A → K) (cmp : K → K → Ordering) (rank : A → A → Ordering) (x : A) where
  head-first : (y : A) (ys : List A) → cmp (key x) (key y) ≡ Equal → put_first key cmp rank x (y ∷ ys) ≡ cond (is_lt (rank y x)) y x ∷ ys
  head-first y ys e =
      let by_order : Ordering → List A = λ o. elim o [ Less ↦ x ∷ y ∷ ys | Equal ↦ cond (is_lt (rank y x)) y x ∷ ys | Greater ↦ y ∷ put_first key cmp rank x ys ] in
      ap by_order e

  module _ (xs : List A) (i : ℕ) (d : A) (below : i < length xs)
      (before : put_first key cmp rank x xs ≡ take i xs ++ put_first key cmp rank x (drop i xs)) where
    here : cmp (key x) (key (get_or xs i d)) ≡ Equal → put_first key cmp rank x xs ≡ set xs i (cond (is_lt (rank (get_or xs i d) x)) (get_or xs i d) x)
    here e =
        let at : put_first key cmp rank x (drop i xs) ≡ cond (is_lt (rank (get_or xs i d) x)) (get_or xs i d) x ∷ drop (suc i) xs =
        rw (drop-cons xs i d below) (head-first (get_or xs i d) (drop (suc i) xs) e) in
        before ∙ ap (λ t. take i xs ++ t) at ∙ sym (set_split xs i (cond (is_lt (rank (get_or xs i d) x)) (get_or xs i d) x) below)

    -- it comes over one of its key that doesn't stand before it
    pub slot-over : cmp (key x) (key (get_or xs i d)) ≡ Equal → is_lt (rank (get_or xs i d) x) ≡ false → put_first key cmp rank x xs ≡ set xs i x
    slot-over e f = here e ∙ ap (λ b. set xs i (cond b (get_or xs i d) x)) f

    -- and gives way to one that does
    pub slot-nowhere : cmp (key x) (key (get_or xs i d)) ≡ Equal → is_lt (rank (get_or xs i d) x) ≡ true → put_first key cmp rank x xs ≡ xs
    slot-nowhere e f = here e ∙ ap (λ b. set xs i (cond b (get_or xs i d) x)) f ∙ set-get_or xs i d
