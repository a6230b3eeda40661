-- The first of the signs that a text begins with is the one that its first two characters tell, and the signs one by one.
use Rattle.std.proofs.Common.{◌≡◌, ℕ, zero, suc, ◌<◌, true, false, ◌⊎◌, List, [], ◌∷◌, codes, refl, sym, ap, ◌∙◌, subst, inl, inr, ⊎_elim, arith, eqb, eqb-true}
use Rattle.std.specs.List.{slice_index_or}
use Rattle.std.proofs.lemmas.Bool.{cases_Bool, false_from_ne_true, eq-eqb}
use Rattle.deb_control.specs.Relations.{known_signs, sign_in}
use Rattle.deb_control.specs.Spelling.{IsSign}
use Rattle.deb_control.specs.declared.relation.Op.{Op}
use Rattle.deb_control.specs.declared.relation.Op.TheVariants.{Below, AtMost, Equal, AtLeast, Above}
use Rattle.deb_control.specs.steps.ClauseSteps.{sign_by}

-- a character that another one isn't
other_side : (a b : ℕ) → eqb a b ≡ false → eqb b a ≡ false
other_side a b h = false_from_ne_true (eqb b a) (λ (yes : eqb b a ≡ true).
    let never : true ≡ false = sym (eq-eqb a b (sym (eqb-true b a yes))) ∙ h in
    cc)

-- both read a text alike
abbrev AreAlike : List ℕ → Type 0
AreAlike text = sign_in text ≡ sign_by text

after_less : (cs : List ℕ) → AreAlike (60 ∷ cs)
unfolding sign_in sign_by
after_less [] = refl
after_less (d ∷ ds) = ⊎_elim
    (λ (twice : eqb d 60 ≡ true). subst (λ (x : ℕ). AreAlike (60 ∷ x ∷ ds)) (sym (eqb-true d 60 twice)) refl)
    (λ (once : eqb d 60 ≡ false). ⊎_elim
    (λ (equal : eqb d 61 ≡ true). subst (λ (x : ℕ). AreAlike (60 ∷ x ∷ ds)) (sym (eqb-true d 61 equal)) refl)
    (λ (other : eqb d 61 ≡ false). rw (once, other, other_side d 60 once, other_side d 61 other) refl)
    (cases_Bool (eqb d 61)))
    (cases_Bool (eqb d 60))

after_greater : (cs : List ℕ) → AreAlike (62 ∷ cs)
unfolding sign_in sign_by
after_greater [] = refl
after_greater (d ∷ ds) = ⊎_elim
    (λ (twice : eqb d 62 ≡ true). subst (λ (x : ℕ). AreAlike (62 ∷ x ∷ ds)) (sym (eqb-true d 62 twice)) refl)
    (λ (once : eqb d 62 ≡ false). ⊎_elim
    (λ (equal : eqb d 61 ≡ true). subst (λ (x : ℕ). AreAlike (62 ∷ x ∷ ds)) (sym (eqb-true d 61 equal)) refl)
    (λ (other : eqb d 61 ≡ false). rw (once, other, other_side d 62 once, other_side d 61 other) refl)
    (cases_Bool (eqb d 61)))
    (cases_Bool (eqb d 62))

pub sign_is : (text : List ℕ) → sign_in text ≡ sign_by text
unfolding sign_in sign_by
sign_is [] = refl
sign_is (c ∷ cs) = ⊎_elim
    (λ (less : eqb c 60 ≡ true). subst (λ (x : ℕ). AreAlike (x ∷ cs)) (sym (eqb-true c 60 less)) (after_less cs))
    (λ (no : eqb c 60 ≡ false). ⊎_elim
    (λ (equal : eqb c 61 ≡ true). subst (λ (x : ℕ). AreAlike (x ∷ cs)) (sym (eqb-true c 61 equal)) refl)
    (λ (other : eqb c 61 ≡ false). ⊎_elim
    (λ (greater : eqb c 62 ≡ true). subst (λ (x : ℕ). AreAlike (x ∷ cs)) (sym (eqb-true c 62 greater)) (after_greater cs))
    (λ (none : eqb c 62 ≡ false). rw (no, other, none, other_side c 60 no, other_side c 61 other, other_side c 62 none) refl)
    (cases_Bool (eqb c 62)))
    (cases_Bool (eqb c 61)))
    (cases_Bool (eqb c 60))

-- the signs of each meaning
abbrev pub IsSignOf : Op → List ℕ → Type 0
IsSignOf Below sign = sign ≡ codes "<<"
IsSignOf AtMost sign = (sign ≡ codes "<=") ⊎ (sign ≡ codes "<")
IsSignOf Equal sign = sign ≡ codes "="
IsSignOf AtLeast sign = (sign ≡ codes ">=") ⊎ (sign ≡ codes ">")
IsSignOf Above sign = sign ≡ codes ">>"

at_place : (op : Op) (sign : List ℕ) (i : ℕ) → i < 7 → (sign, op) ≡ slice_index_or known_signs i (sign, op) → IsSignOf op sign
at_place op sign zero h e = subst (λ (v : List ℕ × Op). IsSignOf v.1 v.0) (sym e) refl
at_place op sign (suc zero) h e = subst (λ (v : List ℕ × Op). IsSignOf v.1 v.0) (sym e) (inl refl)
at_place op sign (suc (suc zero)) h e = subst (λ (v : List ℕ × Op). IsSignOf v.1 v.0) (sym e) (inr refl)
at_place op sign (suc (suc (suc zero))) h e = subst (λ (v : List ℕ × Op). IsSignOf v.1 v.0) (sym e) refl
at_place op sign (suc (suc (suc (suc zero)))) h e = subst (λ (v : List ℕ × Op). IsSignOf v.1 v.0) (sym e) refl
at_place op sign (suc (suc (suc (suc (suc zero))))) h e = subst (λ (v : List ℕ × Op). IsSignOf v.1 v.0) (sym e) (inl refl)
at_place op sign (suc (suc (suc (suc (suc (suc zero)))))) h e = subst (λ (v : List ℕ × Op). IsSignOf v.1 v.0) (sym e) (inr refl)
at_place op sign (suc (suc (suc (suc (suc (suc (suc n))))))) h e = absurd (omega arith)

pub sign_of : (op : Op) (sign : List ℕ) → IsSign op sign → IsSignOf op sign
sign_of op sign among = at_place op sign among.0 among.1.0 among.1.1

pub is_sign : (op : Op) (sign : List ℕ) → IsSignOf op sign → IsSign op sign
is_sign Below sign h = (0, (let within : 0 < 7 = omega arith in within, ap (λ (s : List ℕ). (s, Below)) h))
is_sign AtMost sign (inl h) = (1, (let within : 1 < 7 = omega arith in within, ap (λ (s : List ℕ). (s, AtMost)) h))
is_sign AtMost sign (inr h) = (2, (let within : 2 < 7 = omega arith in within, ap (λ (s : List ℕ). (s, AtMost)) h))
is_sign Equal sign h = (3, (let within : 3 < 7 = omega arith in within, ap (λ (s : List ℕ). (s, Equal)) h))
is_sign AtLeast sign (inl h) = (5, (let within : 5 < 7 = omega arith in within, ap (λ (s : List ℕ). (s, AtLeast)) h))
is_sign AtLeast sign (inr h) = (6, (let within : 6 < 7 = omega arith in within, ap (λ (s : List ℕ). (s, AtLeast)) h))
is_sign Above sign h = (4, (let within : 4 < 7 = omega arith in within, ap (λ (s : List ℕ). (s, Above)) h))
