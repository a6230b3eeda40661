-- The one bug of a number, in the order of the numbers.
use Rattle.std.specs.Prelude.{ℕ, zero, suc, ◌+◌, ◌<◌, ◌==◌, Bool, true, false, ltb, List, [], ◌∷◌, length, get_or, map, filter, Box}
use Rattle.std.proofs.Common.{◌≡◌, refl, sym, ap, ◌∙◌, arith, inl, inr, ltb-true}
use Rattle.std.specs.List.{AllByRecursion}
use Rattle.std.specs.List.Sorted.{IsStrictlySortedBy, IsPartitionPoint}
use Rattle.std.specs.Ordering.{nat_cmp}
use Rattle.std.specs.declared.alloc.Global.{Global}
use Rattle.std.specs.declared.cmp.Ordering.TheVariants.{Less, Equal, Greater}
use Rattle.std.proofs.lemmas.Bool.Decides.{nat_tests}
use Rattle.std.proofs.lemmas.Bool.{cases_lt}
use Rattle.std.proofs.lemmas.Cmp.{nat_cmp_total}
use Rattle.std.proofs.lemmas.List.{get_or-map, length-map}
use Rattle.std.proofs.lemmas.Map.Keys.{sorted_from_strictly_increasing}
use Rattle.testing_rules_model.specs.Boxed.{unboxed}
use Rattle.testing_rules_model.specs.steps.FactOrder.{AreByNumber}
use Rattle.testing_rules_model.specs.declared.facts.BugIn.{BugIn}
use Rattle.testing_rules_model.proofs.KeyOrder.{below_at}
use Rattle.testing_rules_model.proofs.Unboxed.{unboxed-length}

-- a number that ties is the same, and one above or below is not
tied : (a n : ℕ) → nat_cmp a n ≡ Equal → (a == n) ≡ true
tied a n e = grind (arith, nat_tests)

lower : (a n : ℕ) → nat_cmp a n ≡ Less → (a == n) ≡ false
lower a n e = grind (arith, nat_tests)

higher : (a n : ℕ) → nat_cmp a n ≡ Greater → (a == n) ≡ false
higher a n e = grind (arith, nat_tests)

-- nor is one behind or before it
behind : (a b n : ℕ) → nat_cmp a n ≡ Equal → nat_cmp a b ≡ Less → (b == n) ≡ false
behind a b n e l = grind (arith, nat_tests)

before : (a b n : ℕ) → nat_cmp b n ≡ Equal → nat_cmp a b ≡ Less → (a == n) ≡ false
before a b n e l = grind (arith, nat_tests)

module _ (n : ℕ) where
  one_more : (b : BugIn) (bs cs : List BugIn) → (b.bug == n) ≡ true → filter (λ c. c.bug == n) bs ≡ cs → filter (λ c. c.bug == n) (b ∷ bs) ≡ b ∷ cs
  one_more b bs cs e h = rw e (ap (λ ds. b ∷ ds) h)

  no_more : (b : BugIn) (bs cs : List BugIn) → (b.bug == n) ≡ false → filter (λ c. c.bug == n) bs ≡ cs → filter (λ c. c.bug == n) (b ∷ bs) ≡ cs
  no_more b bs cs e h = rw e h

  none_behind : (a : ℕ) (bs : List BugIn) → nat_cmp a n ≡ Equal → AllByRecursion (λ k. nat_cmp a k ≡ Less) (map (λ (b : BugIn). b.bug) bs)
      → filter (λ b. b.bug == n) bs ≡ []
  none_behind a [] e above = refl
  none_behind a (b ∷ bs) e above = no_more b bs [] (behind a b.bug n e above.0) (none_behind a bs e above.1)

  -- where a search says that it is
  pub bug-found : (bs : List BugIn) (i : ℕ) (d : BugIn) → AreByNumber bs → i < length bs → nat_cmp (get_or bs i d).bug n ≡ Equal
      → filter (λ b. b.bug == n) bs ≡ get_or bs i d ∷ []
  unfolding IsStrictlySortedBy
  bug-found [] i d s h e = absurd (omega (arith, h))
  bug-found (b ∷ bs) zero d s h e = one_more b bs [] (tied b.bug n e) (none_behind b.bug bs e s.0)
  bug-found (b ∷ bs) (suc i) d s h e =
      let low : i < length bs = omega (arith, h) in
      let c = get_or bs i d in
      let below = below_at (λ (x : BugIn). x.bug) nat_cmp_total b.bug bs i d s.0 low in
      no_more b bs (c ∷ []) (before b.bug c.bug n e below) (bug-found bs i d s.1 low e)

  none_at : (bs : List BugIn) → ((i : ℕ) (d : BugIn) → i < length bs → ((get_or bs i d).bug == n) ≡ false) → filter (λ b. b.bug == n) bs ≡ []
  none_at [] h = refl
  none_at (b ∷ bs) h = no_more b bs [] (h zero b (omega arith)) (none_at bs (λ i d l. h (suc i) d (omega (arith, l))))

  -- and there is none where it says where the number belongs
  pub bug-missing : (bs : List BugIn) (i : ℕ) → IsPartitionPoint (λ b. nat_cmp b.bug n ≡ Less) (λ b. nat_cmp b.bug n ≡ Greater) bs i
      → filter (λ b. b.bug == n) bs ≡ []
  bug-missing bs i p = none_at bs (λ j d l. elim (cases_lt j i) [
    | inl low ↦ lower (get_or bs j d).bug n (p.0 j d (omega arith) low)
    | inr high ↦ higher (get_or bs j d).bug n (p.1 j d high l)
  ])

-- the number of a bug is below that of another
abbrev pub is_below : Box BugIn Global → Box BugIn Global → Bool
is_below x y = ltb x.value.bug y.value.bug

rise_at : (bs : List (Box BugIn Global)) → ((k : ℕ) (d : Box BugIn Global) → k + 1 < length bs → true ≡ is_below (get_or bs k d) (get_or bs (k + 1) d))
    → (k : ℕ) → k + 1 < length (map (λ (b : BugIn). b.bug) (unboxed bs)) → get_or (map (λ (b : BugIn). b.bug) (unboxed bs)) k 0 < get_or (map (λ (b : BugIn). b.bug) (unboxed bs)) (k + 1) 0
rise_at [] h k l = absurd (omega (arith, l))
rise_at (b ∷ bs) h k l =
    let boxes = b ∷ bs in
    let bugs = unboxed boxes in
    let inside : k + 1 < length boxes = omega (arith, l, length-map bugs (λ (x : BugIn). x.bug), unboxed-length boxes) in
    let read : (j : ℕ) → j < length boxes → get_or (map (λ (x : BugIn). x.bug) bugs) j 0 ≡ (get_or boxes j b).value.bug = λ j m.
    get_or-map (λ (x : BugIn). x.bug) bugs j b.value 0 (omega (arith, m, unboxed-length boxes)) ∙ ap (λ (x : BugIn). x.bug) (get_or-map (λ (x : Box BugIn Global). x.value) boxes j b b.value m) in
    let rises = ltb-true (get_or boxes k b).value.bug (get_or boxes (k + 1) b).value.bug (sym (h k b inside)) in
    omega (arith, rises, read k (omega (arith, inside)), read (k + 1) inside)

-- where each number is below the next, the bugs are in order
pub bugs-rise : (bs : List (Box BugIn Global)) → ((k : ℕ) (d : Box BugIn Global) → k + 1 < length bs → true ≡ is_below (get_or bs k d) (get_or bs (k + 1) d)) → AreByNumber (unboxed bs)
bugs-rise bs h = sorted_from_strictly_increasing (map (λ (b : BugIn). b.bug) (unboxed bs)) (rise_at bs h)
