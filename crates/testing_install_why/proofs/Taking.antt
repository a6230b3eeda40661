use Rattle.std.proofs.Common.{◌≡◌, ℕ, zero, suc, ◌<◌, ◌≤◌, Bool, true, false, ◌⊎◌, List, [], ◌∷◌, ◌++◌, length, set, Some, sym, refl, ap, ◌∙◌, subst, inl, inr, arith}
use Rattle.std.specs.List.{slice_get, All}
use Rattle.std.proofs.lemmas.Option.{slice_get_within, same_Some, get_or_from_slice_get}
use Rattle.std.proofs.lemmas.Bool.{cases_eq, false≢true}
use Rattle.std.proofs.lemmas.List.{length-set, length-append, get_or-set_same, get_or-set_other}
use Rattle.deb_control.specs.declared.binary.Binary.{Binary}
use Rattle.testing_install.specs.Among.{IsInstallableAmong}
use Rattle.testing_install.specs.Closed.{IsMet, IsClosed, IsInside, marked}
use Rattle.testing_install_why.specs.declared.Step.{Step}
use Rattle.testing_install_why.specs.Order.{IsStep, IsNamed, Falls, IsGroundless, IsWhole}
use Rattle.testing_install_why.specs.steps.Taking.{IsOrder}

-- what holds of each element holds of the one at a place
pub all_at : {X : Type 0} (P : X → Type 0) (xs : List X) (i : ℕ) (x : X) → slice_get xs i ≡ Some x → All P xs → P x
all_at P xs i x at all = subst P (get_or_from_slice_get xs i x x at) (all i x (slice_get_within xs i x at))

-- a list with one element more

pub at_left : {X : Type 0} (xs ys : List X) (i : ℕ) (x : X) → slice_get xs i ≡ Some x → slice_get (xs ++ ys) i ≡ Some x
at_left [] ys i x at = absurd (omega (arith, slice_get_within [] i x at))
at_left (y ∷ xs) ys zero x at = at
at_left (y ∷ xs) ys (suc i) x at = at_left xs ys i x at

pub at_end : {X : Type 0} (xs : List X) (y : X) → slice_get (xs ++ y ∷ []) (length xs) ≡ Some y
at_end [] y = refl
at_end (x ∷ xs) y = at_end xs y

pub at_either : {X : Type 0} (xs : List X) (y : X) (i : ℕ) (x : X) → slice_get (xs ++ y ∷ []) i ≡ Some x → (slice_get xs i ≡ Some x) ⊎ ((i ≡ length xs) × (x ≡ y))
at_either [] y zero x at = inr (refl, same_Some x y (sym at))
at_either [] y (suc i) x at = absurd (omega (arith, slice_get_within (y ∷ []) (suc i) x at))
at_either (z ∷ xs) y zero x at = inl at
at_either (z ∷ xs) y (suc i) x at = elim (at_either xs y i x at) [ inl l ↦ inl l | inr r ↦ inr (omega (arith, r.0), r.1) ]

-- no closed set of rows that are there has a row of the list: what would meet its clause stands earlier
out : (rows : List Binary) (there set : ℕ → Bool) (steps : List Step) → IsGroundless rows there steps → IsClosed rows set → IsInside rows set there → (m n : ℕ) (step : Step) → n < m → slice_get steps n ≡ Some step → set step.place ≡ true → ⊥
out rows there set steps g closed inside zero n step h at here = absurd (omega (arith, h))
out rows there set steps g closed inside (suc m) n step h at here =
    let f = g.each n step at in
    let met : IsMet rows set f.is.clause = all_at (IsMet rows set) f.is.row.clauses step.need f.is.clause f.is.needs (closed step.place f.is.row f.is.stands here) in
    let b = f.unmet met.0 met.1 met.2 (inside met.0 (slice_get_within rows met.0 met.1 met.2) met.3) met.4 in
    out rows there set steps g closed inside m b.number b.step (omega (arith, h, b.earlier)) b.stands (ap set b.same ∙ met.3)

pub groundless_out : (rows : List Binary) (there : ℕ → Bool) (steps : List Step) → IsGroundless rows there steps → (n : ℕ) (step : Step) → slice_get steps n ≡ Some step → IsInstallableAmong rows there step.place → ⊥
groundless_out rows there steps g n step at i = out rows there i.0 steps g i.1 i.2 (suc n) n step (omega arith) at i.4

pub order_none : (rows : List Binary) (there : List Bool) → length there ≡ length rows → IsOrder rows (marked there) there []
order_none rows there e = record {
  long = e;
  inside = λ k h. h;
  gone = λ k h on off. absurd (false≢true (sym off ∙ on));
  groundless = record { each = λ n step at. absurd (omega (arith, slice_get_within [] n step at)) };
}

pub named_more : (steps : List Step) (s : Step) (n m k : ℕ) → n ≤ m → IsNamed steps n k → IsNamed (steps ++ s ∷ []) m k
named_more steps s n m k h b = record { number = b.number; step = b.step; earlier = omega (arith, b.earlier, h); stands = at_left steps (s ∷ []) b.number b.step b.stands; same = b.same }

pub two_ways : (b : Bool) → (b ≡ true) ⊎ (b ≡ false)
two_ways true = inl refl
two_ways false = inr refl

module _ (rows : List Binary) (there : ℕ → Bool) (left : List Bool) (steps : List Step) (s : Step) (o : IsOrder rows there left steps) (is : IsStep rows s) (here : marked left s.place ≡ true) (unmet : IsMet rows (marked left) is.clause → ⊥) where
  last_falls : Falls rows there (steps ++ s ∷ []) (length steps) s
  last_falls = record {
    is = is;
    here = o.inside s.place here;
    unmet = λ k other at on does. elim (two_ways (marked left k)) [
      | inl still ↦ absurd (unmet (k, other, at, still, does))
      | inr went ↦ named_more steps s (length steps) (length steps) k (omega arith) (o.gone k (slice_get_within rows k other at) on went)
    ];
  }

  each_falls : (n : ℕ) (step : Step) → slice_get (steps ++ s ∷ []) n ≡ Some step → Falls rows there (steps ++ s ∷ []) n step
  each_falls n step at = elim (at_either steps s n step at) [
    | inl old ↦ (let f = o.groundless.each n step old in record { is = f.is; here = f.here; unmet = λ k other stands on does. named_more steps s n n k (omega arith) (f.unmet k other stands on does) })
    | inr new ↦ subst (λ m. Falls rows there (steps ++ s ∷ []) m step) (sym new.0) (subst (λ t. Falls rows there (steps ++ s ∷ []) (length steps) t) (sym new.1) last_falls)
  ]

  s_in : s.place < length left
  s_in = omega (arith, slice_get_within rows s.place is.row is.stands, o.long)

  -- a row of which nothing left meets a clause is taken out
  pub order_more : IsOrder rows there (set left s.place false) (steps ++ s ∷ [])
  order_more = record {
    long = length-set left s.place false ∙ o.long;
    inside = λ k on. elim (cases_eq k s.place) [
      | inl e ↦ absurd (false≢true (sym (get_or-set_same left s.place false false s_in) ∙ ap (marked (set left s.place false)) (sym e) ∙ on))
      | inr n ↦ o.inside k (sym (get_or-set_other left s.place k false false n) ∙ on)
    ];
    gone = λ k h on off. elim (cases_eq k s.place) [
      | inl e ↦ record { number = length steps; step = s; earlier = omega (arith, length-append steps (s ∷ [])); stands = at_end steps s; same = sym e }
      | inr n ↦ named_more steps s (length steps) (length (steps ++ s ∷ [])) k (omega (arith, length-append steps (s ∷ []))) (o.gone k h on (sym (get_or-set_other left s.place k false false n) ∙ off))
    ];
    groundless = record { each = each_falls };
  }

-- where what is left is closed, it is installable
pub order_whole : (rows : List Binary) (there : ℕ → Bool) (left : List Bool) (steps : List Step) → IsOrder rows there left steps → IsClosed rows (marked left) → IsWhole rows there steps
order_whole rows there left steps o closed = record {
  groundless = o.groundless;
  every = λ k h on. elim (two_ways (marked left k)) [
    | inl still ↦ inr (marked left, closed, (λ j l on. o.inside j on), h, still)
    | inr went ↦ inl (o.gone k h on went)
  ];
}
