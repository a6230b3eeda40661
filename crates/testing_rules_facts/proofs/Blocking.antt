-- The rows of blocks: what comes into the block that is for it, and what goes out of it.
use Rattle.std.specs.Prelude.{ℕ, ◌==◌, zero, suc, ◌+◌, ◌<◌, true, false, not, List, [], ◌∷◌, ◌++◌, filter, length, take, drop, get_or, set}
use Rattle.std.specs.List.{AllByRecursion, insert, remove}
use Rattle.std.specs.declared.cmp.Ordering.{Ordering}
use Rattle.std.specs.declared.cmp.Ordering.TheVariants.{Less, Equal, Greater}
use Rattle.std.proofs.Common.{◌≡◌, refl, sym, ap, ◌∙◌, subst, arith, inl, inr}
use Rattle.std.proofs.lemmas.Bool.{cases_lt, false≢true}
use Rattle.std.proofs.lemmas.Bool.Decides.{nat_tests}
use Rattle.std.proofs.lemmas.List.{append_assoc, append-nil, drop_all}
use Rattle.std.proofs.Math.Seq.{drop-cons}
use Rattle.testing_rules_model.specs.declared.facts.BuildIn.{BuildIn}
use Rattle.testing_rules_model.specs.declared.facts.DropIn.{DropIn}
use Rattle.testing_rules_facts.specs.Blocks.{joined}
use Rattle.testing_rules_facts.specs.steps.Blocks.{HasRows, AreBlocks, begins_above, IsBlockFor}
use Rattle.testing_rules_model.specs.FactOrder.{AreByPair}
use Rattle.testing_rules_model.specs.WithMessage.{put_first, with_build, with_drop, outlives}
use Rattle.testing_rules_model.specs.Unstable.{pair_order, pair_of, drop_pair, build_order}
use Rattle.testing_rules_items.specs.Words.{Text}
use Rattle.testing_rules_facts.specs.steps.ElementShifts.{way_given, come_in}
use Rattle.testing_rules_facts.proofs.KeySlots.{outlives-other}
use Rattle.testing_rules_facts.proofs.KeyShifts.{shift-part, gone-part}
use Rattle.testing_rules_model.proofs.Lifted.{AllBelow, AllAbove, sorted-front, sorted-back, below-front, above-back, put-part, kept-part}
use Rattle.testing_rules_model.proofs.MoreMail.{pair_total}

abbrev Rows : Type 0
Rows = List BuildIn

-- the rows before a place, of the block there, and behind it
pub joined-split : (blocks : List Rows) (i : ℕ) → i < length blocks → joined blocks ≡ joined (take i blocks) ++ (get_or blocks i [] ++ joined (drop (suc i) blocks))
joined-split [] i h = absurd (omega (arith, h))
joined-split (b ∷ bs) zero h = refl
joined-split (b ∷ bs) (suc i) h = ap (λ t. b ++ t) (joined-split bs i (omega (arith, h))) ∙ sym (append_assoc b (joined (take i bs)) (get_or bs i [] ++ joined (drop (suc i) bs)))

pub joined-set : (blocks : List Rows) (i : ℕ) (rows : Rows) → i < length blocks → joined (set blocks i rows) ≡ joined (take i blocks) ++ (rows ++ joined (drop (suc i) blocks))
joined-set [] i rows h = absurd (omega (arith, h))
joined-set (b ∷ bs) zero rows h = refl
joined-set (b ∷ bs) (suc i) rows h = ap (λ t. b ++ t) (joined-set bs i rows (omega (arith, h))) ∙ sym (append_assoc b (joined (take i bs)) (rows ++ joined (drop (suc i) bs)))

pub joined-insert : (blocks : List Rows) (i : ℕ) (rows upper : Rows) → i < length blocks
    → joined (insert (set blocks i rows) (suc i) upper) ≡ joined (take i blocks) ++ (rows ++ (upper ++ joined (drop (suc i) blocks)))
joined-insert [] i rows upper h = absurd (omega (arith, h))
joined-insert (b ∷ bs) zero rows upper h = refl
joined-insert (b ∷ bs) (suc i) rows upper h =
    ap (λ t. b ++ t) (joined-insert bs i rows upper (omega (arith, h)))
    ∙ sym (append_assoc b (joined (take i bs)) (rows ++ (upper ++ joined (drop (suc i) bs))))

pub joined-remove : (blocks : List Rows) (i : ℕ) (rows : Rows) → i < length blocks → joined (remove (set blocks i rows) i) ≡ joined (take i blocks) ++ joined (drop (suc i) blocks)
joined-remove [] i rows h = absurd (omega (arith, h))
joined-remove (b ∷ bs) zero rows h = refl
joined-remove (b ∷ bs) (suc i) rows h = ap (λ t. b ++ t) (joined-remove bs i rows (omega (arith, h))) ∙ sym (append_assoc b (joined (take i bs)) (joined (drop (suc i) bs)))

-- a block at a place but the first has a row
others_at : (blocks : List Rows) (i : ℕ) → AllByRecursion HasRows blocks → i < length blocks → HasRows (get_or blocks i [])
others_at [] i a h = absurd (omega (arith, h))
others_at (b ∷ bs) zero a h = a.0
others_at (b ∷ bs) (suc i) a h = others_at bs i a.1 (omega (arith, h))

some_at : (blocks : List Rows) (i : ℕ) → AreBlocks blocks → suc i < length blocks → HasRows (get_or blocks (suc i) [])
some_at [] i a h = absurd (omega (arith, h))
some_at (b ∷ bs) i a h = others_at bs i a (omega (arith, h))

-- and so it stays
others_set : (blocks : List Rows) (i : ℕ) (rows : Rows) → AllByRecursion HasRows blocks → HasRows rows → AllByRecursion HasRows (set blocks i rows)
others_set [] i rows a h = tt
others_set (b ∷ bs) zero rows a h = (h, a.1)
others_set (b ∷ bs) (suc i) rows a h = (a.0, others_set bs i rows a.1 h)

pub blocks-set : (blocks : List Rows) (i : ℕ) (rows : Rows) → AreBlocks blocks → HasRows rows → AreBlocks (set blocks i rows)
blocks-set [] i rows a h = tt
blocks-set (b ∷ bs) zero rows a h = a
blocks-set (b ∷ bs) (suc i) rows a h = others_set bs i rows a h

others_insert : (blocks : List Rows) (i : ℕ) (rows : Rows) → AllByRecursion HasRows blocks → HasRows rows → AllByRecursion HasRows (insert blocks i rows)
others_insert [] zero rows a h = (h, tt)
others_insert [] (suc i) rows a h = (h, tt)
others_insert (b ∷ bs) zero rows a h = (h, a)
others_insert (b ∷ bs) (suc i) rows a h = (a.0, others_insert bs i rows a.1 h)

inserted : (blocks : List Rows) (i : ℕ) (rows : Rows) → 0 < length blocks → AreBlocks blocks → HasRows rows → AreBlocks (insert blocks (suc i) rows)
inserted [] i rows l a h = absurd (omega (arith, l))
inserted (b ∷ bs) i rows l a h = others_insert bs i rows a h

pub blocks-insert : (blocks : List Rows) (i : ℕ) (rows : Rows) → 0 < length blocks → AreBlocks blocks → HasRows rows → AreBlocks (insert blocks (i + 1) rows)
blocks-insert blocks i rows l a h = subst (λ k. AreBlocks (insert blocks k rows)) (let n : suc i ≡ i + 1 = omega arith in n) (inserted blocks i rows l a h)

others_removed : (blocks : List Rows) (i : ℕ) (rows : Rows) → AllByRecursion HasRows blocks → AllByRecursion HasRows (remove (set blocks i rows) i)
others_removed [] zero rows a = tt
others_removed [] (suc i) rows a = tt
others_removed (b ∷ bs) zero rows a = a.1
others_removed (b ∷ bs) (suc i) rows a = (a.0, others_removed bs i rows a.1)

pub blocks-remove : (blocks : List Rows) (i : ℕ) (rows : Rows) → 0 < i → AreBlocks blocks → AreBlocks (remove (set blocks i rows) i)
blocks-remove blocks zero rows h a = absurd (omega (arith, h))
blocks-remove [] (suc i) rows h a = tt
blocks-remove (b ∷ bs) (suc i) rows h a = others_removed bs i rows a

-- what the block is for is above all before it, and below all behind it
below_part : (p : Text × Text) (xs rows zs : Rows) → HasRows rows → begins_above p rows ≡ false → AreByPair (xs ++ (rows ++ zs)) → AllBelow pair_of pair_total p xs
below_part p xs [] zs h e s = absurd (omega (arith, h))
below_part p xs (y ∷ ys) zs h e s = below-front pair_of pair_total p xs y (ys ++ zs) s e

above_part : (p : Text × Text) (rows zs : Rows) → begins_above p rows ≡ true → AreByPair (rows ++ zs) → AllAbove pair_of pair_total p (rows ++ zs)
above_part p [] zs e s = absurd (false≢true e)
above_part p (y ∷ ys) zs e s = above-back pair_of pair_total p y (ys ++ zs) s e

module _ (blocks : List Rows) (order : AreByPair (joined blocks)) where
  split : (i : ℕ) → i < length blocks → AreByPair (joined (take i blocks) ++ (get_or blocks i [] ++ joined (drop (suc i) blocks)))
  split i h = subst AreByPair (joined-split blocks i h) order

  pub block-order : (i : ℕ) → i < length blocks → AreByPair (get_or blocks i [])
  block-order i h = sorted-front pair_of pair_total (get_or blocks i []) (joined (drop (suc i) blocks)) (sorted-back pair_of pair_total (joined (take i blocks)) (get_or blocks i [] ++ joined (drop (suc i) blocks)) (split i h))

  below : (p : Text × Text) (i : ℕ) → AreBlocks blocks → IsBlockFor p blocks i → AllBelow pair_of pair_total p (joined (take i blocks))
  below p zero a f = tt
  below p (suc i) a f =
      below_part p (joined (take (suc i) blocks)) (get_or blocks (suc i) []) (joined (drop (suc (suc i)) blocks)) (some_at blocks i a f.bound) (f.begins (omega arith)) (split (suc i) f.bound)

  above : (p : Text × Text) (i : ℕ) → IsBlockFor p blocks i → AllAbove pair_of pair_total p (joined (drop (suc i) blocks))
  above p i f = elim (cases_lt (suc i) (length blocks)) [
    | inl low ↦
        let next = drop-cons blocks (suc i) [] low in
        let back = sorted-back pair_of pair_total (get_or blocks i []) (joined (drop (suc i) blocks)) (sorted-back pair_of pair_total (joined (take i blocks)) (get_or blocks i [] ++ joined (drop (suc i) blocks)) (split i f.bound)) in
        let begins = subst (λ k. begins_above p (get_or blocks k []) ≡ true) (let e : i + 1 ≡ suc i = omega arith in e) (f.ends (omega (arith, low))) in
        subst (λ (bs : List Rows). AllAbove pair_of pair_total p (joined bs)) (sym next) (above_part p (get_or blocks (suc i) []) (joined (drop (suc (suc i)) blocks)) begins (subst (λ (bs : List Rows). AreByPair (joined bs)) next back))
    | inr high ↦ subst (λ (bs : List Rows). AllAbove pair_of pair_total p (joined bs)) (sym (drop_all (suc i) blocks high)) tt
  ]

-- so the rows become what the block becomes, with a build more
pub blocks-build : (b : BuildIn) (blocks : List Rows) (i : ℕ) → AreByPair (joined blocks) → AreBlocks blocks → IsBlockFor (pair_of b) blocks i
    → with_build b (joined blocks) ≡ joined (take i blocks) ++ (with_build b (get_or blocks i []) ++ joined (drop (suc i) blocks))
blocks-build b blocks i order a f =
    ap (with_build b) (joined-split blocks i f.bound)
    ∙ put-part pair_of pair_total build_order b (joined (take i blocks)) (get_or blocks i []) (joined (drop (suc i) blocks)) (below blocks order (pair_of b) i a f) (above blocks order (pair_of b) i f)

-- and with a drop more
pub blocks-drop : (d : DropIn) (blocks : List Rows) (i : ℕ) → AreByPair (joined blocks) → AreBlocks blocks → IsBlockFor (drop_pair d) blocks i
    → with_drop d (joined blocks) ≡ joined (take i blocks) ++ (with_drop d (get_or blocks i []) ++ joined (drop (suc i) blocks))
blocks-drop d blocks i order a f =
    ap (with_drop d) (joined-split blocks i f.bound)
    ∙ kept-part pair_of pair_total (outlives d) (drop_pair d) (outlives-other d) (joined (take i blocks)) (get_or blocks i []) (joined (drop (suc i) blocks)) (below blocks order (drop_pair d) i a f) (above blocks order (drop_pair d) i f)

-- a build that came in is there
some_with_at : (r : Ordering) (b c : BuildIn) (rows : Rows) → pair_order (pair_of b) (pair_of c) ≡ r → HasRows (with_build b (c ∷ rows))
some_with_at Less b c rows e = rw (put_first, e) (omega arith)
some_with_at Equal b c rows e = rw (put_first, e) (omega arith)
some_with_at Greater b c rows e = rw (put_first, e) (omega arith)

pub some-with : (b : BuildIn) (rows : Rows) → HasRows (with_build b rows)
some-with b [] = omega arith
some-with b (c ∷ rows) = some_with_at _ b c rows refl

-- a block without rows
pub none-left : (rows : Rows) → (length rows == 0) ≡ true → rows ≡ []
none-left [] e = refl
none-left (b ∷ rows) e = absurd (grind (arith, nat_tests, e))

-- the rows once a block took the build, with its upper half behind it or without, and once it lost a row, and is gone if it has none
module _ (b : BuildIn) (blocks : List Rows) (i : ℕ) (order : AreByPair (joined blocks)) (a : AreBlocks blocks) (f : IsBlockFor (pair_of b) blocks i) where
  pub put-whole : (rows : Rows) → rows ++ [] ≡ with_build b (get_or blocks i []) → joined (set blocks i rows) ≡ with_build b (joined blocks)
  put-whole rows e =
      joined-set blocks i rows f.bound
      ∙ ap (λ t. joined (take i blocks) ++ (t ++ joined (drop (suc i) blocks))) (sym (append-nil rows) ∙ e)
      ∙ sym (blocks-build b blocks i order a f)

  pub put-halves : (rows upper : Rows) → rows ++ upper ≡ with_build b (get_or blocks i []) → joined (insert (set blocks i rows) (i + 1) upper) ≡ with_build b (joined blocks)
  put-halves rows upper e =
      ap (λ k. joined (insert (set blocks i rows) k upper)) (let n : i + 1 ≡ suc i = omega arith in n)
      ∙ joined-insert blocks i rows upper f.bound
      ∙ ap (λ t. joined (take i blocks) ++ t) (sym (append_assoc rows upper (joined (drop (suc i) blocks))))
      ∙ ap (λ t. joined (take i blocks) ++ (t ++ joined (drop (suc i) blocks))) e
      ∙ sym (blocks-build b blocks i order a f)

module _ (d : DropIn) (blocks : List Rows) (i : ℕ) (order : AreByPair (joined blocks)) (a : AreBlocks blocks) (f : IsBlockFor (drop_pair d) blocks i) where
  pub drop-some : (rows : Rows) → rows ≡ with_drop d (get_or blocks i []) → joined (set blocks i rows) ≡ with_drop d (joined blocks)
  drop-some rows e =
      joined-set blocks i rows f.bound
      ∙ ap (λ t. joined (take i blocks) ++ (t ++ joined (drop (suc i) blocks))) e
      ∙ sym (blocks-drop d blocks i order a f)

  pub drop-last : (rows : Rows) → rows ≡ [] → rows ≡ with_drop d (get_or blocks i []) → joined (remove (set blocks i rows) i) ≡ with_drop d (joined blocks)
  drop-last rows none e =
      joined-remove blocks i rows f.bound
      ∙ ap (λ t. joined (take i blocks) ++ (t ++ joined (drop (suc i) blocks))) (sym none ∙ e)
      ∙ sym (blocks-drop d blocks i order a f)

-- what a build does to the rows of its block it does to all, and what a drop takes of them it takes of all
pub blocks-shift : (b : BuildIn) (blocks : List Rows) (i : ℕ) → AreByPair (joined blocks) → AreBlocks blocks → IsBlockFor (pair_of b) blocks i
    → (way_given pair_of pair_order build_order b (joined blocks) ≡ way_given pair_of pair_order build_order b (get_or blocks i []))
    × (come_in pair_of pair_order build_order b (joined blocks) ≡ come_in pair_of pair_order build_order b (get_or blocks i []))
blocks-shift b blocks i order a f =
    let part = shift-part pair_of pair_total build_order b (joined (take i blocks)) (get_or blocks i []) (joined (drop (suc i) blocks)) (below blocks order (pair_of b) i a f) (above blocks order (pair_of b) i f) in (
      ap (way_given pair_of pair_order build_order b) (joined-split blocks i f.bound) ∙ part.0,
      ap (come_in pair_of pair_order build_order b) (joined-split blocks i f.bound) ∙ part.1,
    )

pub blocks-gone : (d : DropIn) (blocks : List Rows) (i : ℕ) → AreByPair (joined blocks) → AreBlocks blocks → IsBlockFor (drop_pair d) blocks i
    → filter (λ b. not (outlives d b)) (joined blocks) ≡ filter (λ b. not (outlives d b)) (get_or blocks i [])
blocks-gone d blocks i order a f =
    ap (filter (λ b. not (outlives d b))) (joined-split blocks i f.bound)
    ∙ gone-part pair_of pair_total (outlives d) (drop_pair d) (outlives-other d) (joined (take i blocks)) (get_or blocks i []) (joined (drop (suc i) blocks)) (below blocks order (drop_pair d) i a f) (above blocks order (drop_pair d) i f)
