-- The binary at a place of a build.
use Rattle.std.specs.Prelude.{ℕ, zero, suc, ◌+◌, ◌<◌, ◌==◌, true, false, cond, List, [], ◌∷◌, find, Option, Some, None, option_map, slice_get}
use Rattle.std.proofs.Common.{◌≡◌, refl, sym, ap, ◌∙◌, arith, length, option_copied}
use Rattle.std.specs.Borrow.{Bor}
use Rattle.std.specs.Slice.{IsGetResult}
use Rattle.std.proofs.lemmas.Option.{slice_get_past, slice_get_read}
use Rattle.std.proofs.lemmas.Bool.Decides.{nat_tests}
use Rattle.deb_control.specs.declared.binary.Binary.{Binary}
use Rattle.testing_rules_model.specs.Covered.{placed_from}
use Rattle.testing_rules_fact_order.specs.steps.Entries.{placed_at}

module _ (n k : ℕ) where
  -- before the first place there is none
  pub none_before : (p q : ℕ) (bs : List Binary) → p < q → find (λ b. b.place == p) (placed_from q n k bs) ≡ None
  none_before p q [] h = refl
  none_before p q (b ∷ bs) h =
      ap (λ t. cond t (Some (placed_at n k b q)) (find (λ b. b.place == p) (placed_from (q + 1) n k bs))) (let e : (q == p) ≡ false = grind (arith, nat_tests, h) in e)
      ∙ none_before p (q + 1) bs (omega (arith, h))

  -- the one so far behind it
  pub found_at : (i q : ℕ) (bs : List Binary) → find (λ b. b.place == q + i) (placed_from q n k bs) ≡ option_map (λ b. placed_at n k b (q + i)) (slice_get bs i)
  found_at i q [] = refl
  found_at zero q (b ∷ bs) =
      ap (λ t. cond t (Some (placed_at n k b q)) (find (λ b. b.place == q + 0) (placed_from (q + 1) n k bs))) (let e : (q == q + 0) ≡ true = grind (arith, nat_tests) in e)
      ∙ ap (λ p. Some (placed_at n k b p)) (let e : q ≡ q + 0 = omega arith in e)
  found_at (suc i) q (b ∷ bs) =
      ap (λ t. cond t (Some (placed_at n k b q)) (find (λ b. b.place == q + suc i) (placed_from (q + 1) n k bs))) (let e : (q == q + suc i) ≡ false = grind (arith, nat_tests) in e)
      ∙ ap (λ p. find (λ b. b.place == p) (placed_from (q + 1) n k bs)) (let e : q + suc i ≡ (q + 1) + i = omega arith in e)
      ∙ found_at i (q + 1) bs
      ∙ ap (λ p. option_map (λ b. placed_at n k b p) (slice_get bs i)) (let e : (q + 1) + i ≡ q + suc i = omega arith in e)

-- what a slice lends at a place
pub lent_at : (bs : List Binary) (i : ℕ) (r : Option (Bor Binary)) → IsGetResult bs i i r → option_copied r ≡ slice_get bs i
lent_at bs i None h = sym (slice_get_past bs i h.3)
lent_at bs i (Some x) h = sym (slice_get_read bs (length bs) i x.now refl h.3.0 h.1)
