-- Lists of eight elements, and lists of lists.
use Rattle.std.proofs.Common.{◌≡◌, ◌∷◌, List, [], ℕ, length, get_or, map, take, drop, ◌+◌, ◌-◌, ◌≤◌, ◌++◌, refl, sym, ap, subst, ◌∙◌, arith}
use Rattle.std.proofs.lemmas.List.{length-drop, length-take-le, take_rest}
use Rattle.std.proofs.Math.Seq.{take-add}
use Rattle.std.specs.List.{flat_map}

map_append : {A B : Type 0} (f : A → B) (xs ys : List A) → map f (xs ++ ys) ≡ map f xs ++ map f ys
map_append f [] ys = refl
map_append f (x ∷ xs) ys = ap (λ l. f x ∷ l) (map_append f xs ys)

head_is : {A : Type 0} {x y : A} {xs ys : List A} → x ∷ xs ≡ y ∷ ys → x ≡ y
head_is e = cc

tail_is : {A : Type 0} {x y : A} {xs ys : List A} → x ∷ xs ≡ y ∷ ys → xs ≡ ys
tail_is e = cc

-- what is made of each list in turn is made of all of them
pub flattened : {A B C : Type 0} (f : A → B) (g : C → List B) (xs : List (List A)) (ys : List C) → map (map f) xs ≡ map g ys → map f (flat_map (λ x. x) xs) ≡ flat_map g ys
flattened f g [] [] e = refl
flattened f g [] (y ∷ ys) e = absurd (let k = e in cc)
flattened f g (x ∷ xs) [] e = absurd (let k = e in cc)
flattened f g (x ∷ xs) (y ∷ ys) e = map_append f x (flat_map (λ z. z) xs) ∙ ap (λ l. l ++ map f (flat_map (λ z. z) xs)) (head_is e) ∙ ap (λ l. g y ++ l) (flattened f g xs ys (tail_is e))

-- eight elements, one by one
pub eight_are : {X : Type 0} (xs : List X) (d : X) → length xs ≡ 8 → xs ≡ get_or xs 0 d ∷ get_or xs 1 d ∷ get_or xs 2 d ∷ get_or xs 3 d ∷ get_or xs 4 d ∷ get_or xs 5 d ∷ get_or xs 6 d ∷ get_or xs 7 d ∷ []
eight_are [] d h = absurd (omega (arith, h))
eight_are (a ∷ []) d h = absurd (omega (arith, h))
eight_are (a ∷ b ∷ []) d h = absurd (omega (arith, h))
eight_are (a ∷ b ∷ c ∷ []) d h = absurd (omega (arith, h))
eight_are (a ∷ b ∷ c ∷ e ∷ []) d h = absurd (omega (arith, h))
eight_are (a ∷ b ∷ c ∷ e ∷ f ∷ []) d h = absurd (omega (arith, h))
eight_are (a ∷ b ∷ c ∷ e ∷ f ∷ g ∷ []) d h = absurd (omega (arith, h))
eight_are (a ∷ b ∷ c ∷ e ∷ f ∷ g ∷ i ∷ []) d h = absurd (omega (arith, h))
eight_are (a ∷ b ∷ c ∷ e ∷ f ∷ g ∷ i ∷ j ∷ []) d h = refl
eight_are (a ∷ b ∷ c ∷ e ∷ f ∷ g ∷ i ∷ j ∷ k ∷ more) d h = absurd (omega (arith, h))

-- what holds of any eight elements holds of a list of eight
pub of_eight : {X : Type 0} (P : List X → Type 0) → ((a b c e f g i j : X) → P (a ∷ b ∷ c ∷ e ∷ f ∷ g ∷ i ∷ j ∷ [])) → (xs : List X) → length xs ≡ 8 → P xs
of_eight P each [] h = absurd (omega (arith, h))
of_eight P each (a ∷ []) h = absurd (omega (arith, h))
of_eight P each (a ∷ b ∷ []) h = absurd (omega (arith, h))
of_eight P each (a ∷ b ∷ c ∷ []) h = absurd (omega (arith, h))
of_eight P each (a ∷ b ∷ c ∷ e ∷ []) h = absurd (omega (arith, h))
of_eight P each (a ∷ b ∷ c ∷ e ∷ f ∷ []) h = absurd (omega (arith, h))
of_eight P each (a ∷ b ∷ c ∷ e ∷ f ∷ g ∷ []) h = absurd (omega (arith, h))
of_eight P each (a ∷ b ∷ c ∷ e ∷ f ∷ g ∷ i ∷ []) h = absurd (omega (arith, h))
of_eight P each (a ∷ b ∷ c ∷ e ∷ f ∷ g ∷ i ∷ j ∷ []) h = each a b c e f g i j
of_eight P each (a ∷ b ∷ c ∷ e ∷ f ∷ g ∷ i ∷ j ∷ k ∷ more) h = absurd (omega (arith, h))

-- what is behind a place of a list, as code lends it
pub rest_length : {X : Type 0} (xs : List X) (i : ℕ) → length (take (length xs - i) (drop i xs)) ≡ length xs - i
rest_length xs i = ap length (take_rest xs i) ∙ length-drop i xs

pub take_on : {X : Type 0} (xs : List X) (i k : ℕ) → take (i + k) xs ≡ take i xs ++ take k (take (length xs - i) (drop i xs))
take_on xs i k = take-add i k xs ∙ ap (λ l. take i xs ++ take k l) (sym (take_rest xs i))

-- eight elements that stand at the places of a list of eight
pub eight_items : {X : Type 0} (a b c e f g i j : X) (xs : List X) → length xs ≡ 8 → a ≡ get_or xs 0 a → b ≡ get_or xs 1 b → c ≡ get_or xs 2 c → e ≡ get_or xs 3 e → f ≡ get_or xs 4 f → g ≡ get_or xs 5 g → i ≡ get_or xs 6 i → j ≡ get_or xs 7 j → a ∷ b ∷ c ∷ e ∷ f ∷ g ∷ i ∷ j ∷ [] ≡ xs
eight_items {X} a b c e f g i j = of_eight (λ xs. a ≡ get_or xs 0 a → b ≡ get_or xs 1 b → c ≡ get_or xs 2 c → e ≡ get_or xs 3 e → f ≡ get_or xs 4 f → g ≡ get_or xs 5 g → i ≡ get_or xs 6 i → j ≡ get_or xs 7 j → a ∷ b ∷ c ∷ e ∷ f ∷ g ∷ i ∷ j ∷ [] ≡ xs) each
  where
    each : (p q r s t u v w : X) → a ≡ p → b ≡ q → c ≡ r → e ≡ s → f ≡ t → g ≡ u → i ≡ v → j ≡ w → a ∷ b ∷ c ∷ e ∷ f ∷ g ∷ i ∷ j ∷ [] ≡ p ∷ q ∷ r ∷ s ∷ t ∷ u ∷ v ∷ w ∷ []
    each p q r s t u v w is_p is_q is_r is_s is_t is_u is_v is_w = λ k. is_p k ∷ is_q k ∷ is_r k ∷ is_s k ∷ is_t k ∷ is_u k ∷ is_v k ∷ is_w k ∷ []

-- eight elements of a list from a place on, as code lends them
pub eight_on : {X : Type 0} (xs : List X) (i : ℕ) → 8 ≤ length xs - i → length (take (i + 8 - i) (drop i xs)) ≡ 8
eight_on xs i some =
    let just : i + 8 - i ≡ 8 = omega arith in
    let within : 8 ≤ length (drop i xs) = subst (λ n. 8 ≤ n) (sym (length-drop i xs)) some in
    ap (λ n. length (take n (drop i xs))) just ∙ length-take-le 8 (drop i xs) within
