-- The numbers that unhints cancel.
use Rattle.std.specs.Prelude.{ℕ, false, ◌==◌, ◌||◌, List, [], ◌∷◌, map}
use Rattle.std.specs.List.{list_any}
use Rattle.std.proofs.Common.{◌≡◌, ◌∙◌, refl, sym, ap, inl, inr}
use Rattle.std.proofs.lemmas.Bool.{cases_Bool, eq-eqb, eqb-true, false_from_ne_true, false≢true}
use Rattle.testing_rules_model.specs.declared.facts.UnhintIn.{UnhintIn}

eqb-swap : (a b : ℕ) → (a == b) ≡ (b == a)
eqb-swap a b = elim (cases_Bool (a == b)) [
  | inl t ↦ t ∙ sym (eq-eqb b a (sym (eqb-true a b t)))
  | inr f ↦ f ∙ sym (false_from_ne_true (b == a) (λ t. false≢true (sym f ∙ eq-eqb a b (sym (eqb-true b a t)))))
]

-- a number is one of theirs where one of them cancels it
pub any-cancels : (unhints : List UnhintIn) (number : ℕ) → list_any (λ n. number == n) (map (λ c. c.cancels) unhints) ≡ list_any (λ c. c.cancels == number) unhints
any-cancels [] number = refl
any-cancels (u ∷ us) number =
    ap (λ b. b || list_any (λ n. number == n) (map (λ c. c.cancels) us)) (eqb-swap number u.cancels)
    ∙ ap (λ b. (u.cancels == number) || b) (any-cancels us number)
