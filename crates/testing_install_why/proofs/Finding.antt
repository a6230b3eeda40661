use Rattle.std.proofs.Common.{◌≡◌, ℕ, zero, suc, ◌+◌, ◌<◌, ◌≤◌, Bool, true, false, ◌⊎◌, List, [], ◌∷◌, ◌++◌, length, get_or, set, Some, sym, refl, ap, ◌∙◌, subst, inl, inr, arith}
use Rattle.std.specs.List.{slice_get, All, Contains, count_by}
use Rattle.std.proofs.lemmas.Option.{slice_get_within, same_Some}
use Rattle.std.proofs.lemmas.Bool.{cases_lt, false≢true}
use Rattle.deb_control.specs.declared.binary.Binary.{Binary}
use Rattle.deb_control.specs.declared.relation.Clause.{Clause}
use Rattle.testing_install.specs.Among.{IsInstallableAmong}
use Rattle.testing_install.specs.Closed.{IsMet, IsClosed, marked}
use Rattle.testing_install.specs.Satisfies.{meets}
use Rattle.testing_install.proofs.Places.{MissesBelow, misses_none, misses_more_out, misses_more_not, misses_all}
use Rattle.testing_install.proofs.Counting.{slice_get_some}
use Rattle.testing_install.proofs.Sweeping.{fewer_taken}
use Rattle.testing_install_why.specs.declared.Step.{Step}
use Rattle.testing_install_why.specs.Order.{IsStep, IsNamed, IsGroundless, IsWhole}
use Rattle.testing_install_why.specs.steps.Order.{Refutes, IsReaching}
use Rattle.testing_install_why.specs.steps.Taking.{IsOrder, IsHeldAt, FailsAt}
use Rattle.std.proofs.lemmas.List.{get_or_default}
use Rattle.testing_install_why.proofs.Taking.{all_at, groundless_out, order_none, order_more, order_whole, two_ways}

-- whether some row of the set meets the clause

met_below : (rows : List Binary) (set : ℕ → Bool) (clause : Clause) (n : ℕ) → n ≤ length rows → MissesBelow rows set clause n ⊎ IsMet rows set clause
met_below rows set clause zero h = inl (misses_none rows set clause)
met_below rows set clause (suc n) h =
    let r = slice_get_some rows n (omega (arith, h)) in
    let up : n + 1 ≡ suc n = omega arith in
    elim (met_below rows set clause n (omega (arith, h))) [
      | inr met ↦ inr met
      | inl m ↦ elim (two_ways (set n)) [
        | inr off ↦ inl (subst (λ x. MissesBelow rows set clause x) up (misses_more_out rows set clause n m off))
        | inl on ↦ elim (two_ways (meets r.0 clause)) [
          | inr not ↦ inl (subst (λ x. MissesBelow rows set clause x) up (misses_more_not rows set clause n r.0 r.1 m not))
          | inl does ↦ inr (n, r.0, r.1, on, does)
        ]
      ]
    ]

pub is_met : (rows : List Binary) (set : ℕ → Bool) (clause : Clause) → IsMet rows set clause ⊎ (IsMet rows set clause → ⊥)
is_met rows set clause = elim (met_below rows set clause (length rows) (omega arith)) [
  | inr met ↦ inl met
  | inl m ↦ inr (misses_all rows set clause (length rows) m (omega arith))
]

all_cons : {X : Type 0} (P : X → Type 0) (x : X) (xs : List X) → P x → All P xs → (i : ℕ) (d : X) → i < length (x ∷ xs) → P (get_or (x ∷ xs) i d)
all_cons P x xs px all zero d h = px
all_cons P x xs px all (suc i) d h = all i d (omega (arith, h))

clause_fails : (rows : List Binary) (set : ℕ → Bool) (clauses : List Clause) → All (IsMet rows set) clauses ⊎ ((i : ℕ) × FailsAt rows set clauses i)
clause_fails rows set [] = inl (λ i d h. absurd (omega (arith, h)))
clause_fails rows set (c ∷ cs) = elim (is_met rows set c) [
  | inr off ↦ inr (0, record { clause = c; needs = refl; unmet = off })
  | inl met ↦ elim (clause_fails rows set cs) [
    | inl all ↦ inl (all_cons (IsMet rows set) c cs met all)
    | inr f ↦ inr (suc f.0, record { clause = f.1.clause; needs = f.1.needs; unmet = f.1.unmet })
  ]
]

-- a row of the set with a clause that no row of the set meets
record Fails (rows : List Binary) (set : ℕ → Bool) : Type 0 where
  step : Step
  is : IsStep rows step
  here : set step.place ≡ true
  unmet : IsMet rows set is.clause → ⊥

closed_more : (rows : List Binary) (set : ℕ → Bool) (n : ℕ) (row : Binary) → slice_get rows n ≡ Some row → ((k : ℕ) (row : Binary) → k < n → slice_get rows k ≡ Some row → set k ≡ true → All (IsMet rows set) row.clauses) → (set n ≡ true → All (IsMet rows set) row.clauses) → (k : ℕ) (row : Binary) → k < suc n → slice_get rows k ≡ Some row → set k ≡ true → All (IsMet rows set) row.clauses
closed_more rows set n row at below here k other h stands on = elim (cases_lt k n) [
  | inl l ↦ below k other l stands on
  | inr g ↦ (
      let same : k ≡ n = omega (arith, h, g) in
      let alike : other ≡ row = same_Some other row (sym stands ∙ ap (slice_get rows) same ∙ at) in
      subst (λ x. All (IsMet rows set) x.clauses) (sym alike) (here (sym (ap set same) ∙ on)))
]

row_fails : (rows : List Binary) (set : ℕ → Bool) (n : ℕ) → n ≤ length rows → ((k : ℕ) (row : Binary) → k < n → slice_get rows k ≡ Some row → set k ≡ true → All (IsMet rows set) row.clauses) ⊎ Fails rows set
row_fails rows set zero h = inl (λ k row l. absurd (omega (arith, l)))
row_fails rows set (suc n) h =
    let r = slice_get_some rows n (omega (arith, h)) in
    elim (row_fails rows set n (omega (arith, h))) [
      | inr f ↦ inr f
      | inl below ↦ elim (two_ways (set n)) [
        | inr off ↦ inl (closed_more rows set n r.0 r.1 below (λ on. absurd (false≢true (sym off ∙ on))))
        | inl on ↦ elim (clause_fails rows set r.0.clauses) [
          | inl all ↦ inl (closed_more rows set n r.0 r.1 below (λ _. all))
          | inr f ↦ inr (record { step = record { place = n; need = f.0 }; is = record { row = r.0; clause = f.1.clause; stands = r.1; needs = f.1.needs }; here = on; unmet = f.1.unmet })
        ]
      ]
    ]

is_closed_or : (rows : List Binary) (set : ℕ → Bool) → IsClosed rows set ⊎ Fails rows set
is_closed_or rows set = elim (row_fails rows set (length rows) (omega arith)) [
  | inl below ↦ inl (λ k row at on. below k row (slice_get_within rows k row at) at on)
  | inr f ↦ inr f
]

-- rows are taken out until none is left that can be: n bounds how many
order_from : (rows : List Binary) (there : ℕ → Bool) (n : ℕ) (left : List Bool) (steps : List Step) → count_by (λ b. b) left ≤ n → IsOrder rows there left steps → (all : List Step) × IsWhole rows there all
order_from rows there zero left steps few o = elim (is_closed_or rows (marked left)) [
  | inl closed ↦ (steps, order_whole rows there left steps o closed)
  | inr f ↦ absurd (omega (arith, few, fewer_taken left f.step.place (omega (arith, slice_get_within rows f.step.place f.is.row f.is.stands, o.long)) f.here))
]
order_from rows there (suc n) left steps few o = elim (is_closed_or rows (marked left)) [
  | inl closed ↦ (steps, order_whole rows there left steps o closed)
  | inr f ↦ order_from rows there n (set left f.step.place false) (steps ++ f.step ∷ [])
      (omega (arith, few, fewer_taken left f.step.place (omega (arith, slice_get_within rows f.step.place f.is.row f.is.stands, o.long)) f.here))
      (order_more rows there left steps f.step o f.is f.here f.unmet)
]

pub whole_order : (rows : List Binary) (there : List Bool) → length there ≡ length rows → (steps : List Step) × IsWhole rows (marked there) steps
whole_order rows there e = order_from rows (marked there) (count_by (λ b. b) there) there [] (omega arith) (order_none rows there e)

pub each_order : (rows : List Binary) (there : List Bool) (k : ℕ) → length there ≡ length rows → k < length rows → marked there k ≡ true → (IsInstallableAmong rows (marked there) k → ⊥) → (steps : List Step) × IsGroundless rows (marked there) steps × IsNamed steps (length steps) k
each_order rows there k e h on off =
    let w = whole_order rows there e in
    elim (w.1.every k h on) [
      | inl named ↦ (w.0, w.1.groundless, named)
      | inr is ↦ absurd (off is)
    ]

-- where the places reach all that affects them and no more of their rows fall, none of those that aren't installable is left

contains_read : (P : ℕ → Type 0) (places : List ℕ) (k : ℕ) → Contains places k → All P places → P k
contains_read P places k c all = subst P c.2 (all c.0 k c.1)

fallen : (rows : List Binary) (there : ℕ → Bool) (left : List Bool) (steps : List Step) (places : List ℕ) (whole : List Step) → IsOrder rows there left steps → All (IsHeldAt rows (marked left)) places → IsReaching rows there places → IsGroundless rows there whole → (m n : ℕ) (step : Step) → n < m → slice_get whole n ≡ Some step → Contains places step.place → marked left step.place ≡ true → ⊥
fallen rows there left steps places whole o held reach g zero n step h at inside on = absurd (omega (arith, h))
fallen rows there left steps places whole o held reach g (suc m) n step h at inside on =
    let f = g.each n step at in
    let all = (contains_read (IsHeldAt rows (marked left)) places step.place inside held).each f.is.row f.is.stands on in
    let met : IsMet rows (marked left) f.is.clause = all_at (IsMet rows (marked left)) f.is.row.clauses step.need f.is.clause f.is.needs all in
    let here = o.inside met.0 met.3 in
    let b = f.unmet met.0 met.1 met.2 here met.4 in
    elim (reach.each step.place f.is.row step.need f.is.clause met.0 met.1 inside f.is.stands f.is.needs met.2 here met.4) [
      | inl reached ↦ fallen rows there left steps places whole o held reach g m b.number b.step (omega (arith, h, b.earlier)) b.stands (subst (Contains places) (sym b.same) reached) (ap (marked left) b.same ∙ met.3)
      | inr is ↦ groundless_out rows there whole g b.number b.step b.stands (subst (IsInstallableAmong rows there) (sym b.same) is)
    ]

pub refuted : (rows : List Binary) (there left : List Bool) (steps : List Step) (places : List ℕ) (k : ℕ) → length there ≡ length rows → IsOrder rows (marked there) left steps → All (IsHeldAt rows (marked left)) places → IsReaching rows (marked there) places → k < length rows → Contains places k → Refutes rows (marked there) steps k
refuted rows there left steps places k e o held reach h inside = record {
  named = λ on off.
      let w = each_order rows there k e h on off in
      let n = w.2 in
      elim (two_ways (marked left k)) [
        | inl still ↦ absurd (fallen rows (marked there) left steps places w.0 o held reach w.1 (suc n.number) n.number n.step (omega arith) n.stands (subst (Contains places) (sym n.same) inside) (ap (marked left) n.same ∙ still))
        | inr went ↦ o.gone k h on went
      ];
}

pub all_refuted : (rows : List Binary) (there left : List Bool) (steps : List Step) (places : List ℕ) → length there ≡ length rows → IsOrder rows (marked there) left steps → All (IsHeldAt rows (marked left)) places → All (λ k. k < length rows) places → IsReaching rows (marked there) places → All (Refutes rows (marked there) steps) places
all_refuted rows there left steps places e o held within reach i d h =
    refuted rows there left steps places (get_or places i d) e o held reach (within i d h) (i, h, get_or_default places i (get_or places i d) d h)
