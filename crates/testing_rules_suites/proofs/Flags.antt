-- The flags after a change are those of the places that came, and of those that were there and didn't leave.
use Rattle.std.specs.Prelude.{ℕ, zero, suc, ◌<◌, Bool, true, false, ◌&&◌, ◌||◌, not, List, [], ◌∷◌, length, Contains, filter, get_or}
use Rattle.std.proofs.Common.{◌≡◌, refl, sym, ◌∙◌, arith, inl, inr}
use Rattle.std.specs.List.{All}
use Rattle.std.proofs.lemmas.Bool.{false≢true}
use Rattle.std.proofs.lemmas.List.{get_or_default}
use Rattle.testing_install.specs.Among.{with_all, after_change}
use Rattle.testing_install.specs.Closed.{marked}
use Rattle.testing_install.proofs.Marking.{with_here, with_elsewhere, length-with_all}
use Rattle.testing_rules_suites.specs.steps.Changes.{has}
use Rattle.testing_rules_suites.proofs.Arranging.{from_has, to_has}
use Rattle.testing_rules_model.proofs.Least.{from_filter}

and-false : (b : Bool) → false ≡ (b && false)
and-false true = refl
and-false false = refl

and-true : (b : Bool) → b ≡ (b && true)
and-true true = refl
and-true false = refl

-- a place that isn't in a list keeps its flag
kept_at : (b : Bool) (ks : List ℕ) (xs : List Bool) (k : ℕ) → has ks k ≡ false → marked (with_all b ks xs) k ≡ marked xs k
kept_at b ks xs k e = elim (with_elsewhere b (marked (with_all b ks xs) k) ks xs k refl) [
  | inl same ↦ sym same
  | inr listed ↦ absurd (false≢true (sym e ∙ to_has ks k listed))
]

module _ (leaving coming : List ℕ) (there : List Bool) (k : ℕ) (h : k < length there) where
  without : (b : Bool) → has leaving k ≡ b → marked (with_all false leaving there) k ≡ (marked there k && not b)
  without true e = with_here false leaving there k h (from_has leaving k e) ∙ and-false (marked there k)
  without false e = kept_at false leaving there k e ∙ and-true (marked there k)

  with_those : (b : Bool) → has coming k ≡ b → marked (after_change leaving coming there) k ≡ (b || (marked there k && not (has leaving k)))
  with_those true e = with_here true coming (with_all false leaving there) k (omega (arith, h, length-with_all false leaving there)) (from_has coming k e)
  with_those false e = kept_at true coming (with_all false leaving there) k e ∙ without (has leaving k) refl

  pub flags_after : marked (after_change leaving coming there) k ≡ (has coming k || (marked there k && not (has leaving k)))
  flags_after = with_those (has coming k) refl

-- a flag that is up is in the list
pub marked_within : (xs : List Bool) (k : ℕ) → marked xs k ≡ true → k < length xs
marked_within [] k h = absurd (false≢true h)
marked_within (x ∷ xs) zero h = omega arith
marked_within (x ∷ xs) (suc k) h = omega (arith, marked_within xs k h)

pub flag_within : (leaving coming : List ℕ) (there : List Bool) (k : ℕ) → marked (after_change leaving coming there) k ≡ true → k < length there
flag_within leaving coming there k h =
    omega (arith, marked_within (after_change leaving coming there) k h, length-with_all true coming (with_all false leaving there), length-with_all false leaving there)

-- places that are bounded by members
pub bounded_members : (n : ℕ) (xs : List ℕ) → ((k : ℕ) → Contains xs k → k < n) → All (λ k. k < n) xs
bounded_members n xs h i d l = h (get_or xs i d) (i, l, get_or_default xs i (get_or xs i d) d l)

-- those of some places that pass a test are bounded as they are
pub bounded_filter : (n : ℕ) (test : ℕ → Bool) (xs : List ℕ) → All (λ k. k < n) xs → All (λ k. k < n) (filter test xs)
bounded_filter n test xs all = bounded_members n (filter test xs) (λ k c. let f = (from_filter test xs k c).0 in omega (arith, all f.0 k f.1, f.2))
