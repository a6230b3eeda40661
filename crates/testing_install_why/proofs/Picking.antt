use Rattle.std.proofs.Common.{◌≡◌, ℕ, ◌+◌, ◌<◌, ◌≤◌, Bool, true, false, List, [], ◌∷◌, ◌++◌, length, set, Some, sym, ap, ◌∙◌, subst, inl, inr, arith}
use Rattle.std.specs.List.{slice_get}
use Rattle.std.proofs.lemmas.Option.{slice_get_within, same_Some}
use Rattle.std.proofs.lemmas.Bool.{cases_lt, false≢true}
use Rattle.std.proofs.lemmas.List.{length-set, length-append, get_or-set_same}
use Rattle.deb_control.specs.declared.binary.Binary.{Binary}
use Rattle.testing_install.specs.Closed.{marked}
use Rattle.testing_install_why.specs.declared.Step.{Step}
use Rattle.testing_install_why.specs.Order.{IsNamed, Falls, IsGroundless}
use Rattle.testing_install_why.specs.steps.Certificate.{IsCertificate}
use Rattle.testing_install_why.specs.steps.Needed.{IsMarkedFor, IsNeeded}
use Rattle.testing_install_why.specs.steps.Providers.{IsProvider}
use Rattle.testing_install_why.proofs.Taking.{at_end, at_either, named_more}

-- one step more of which each provider stands in the list
pub groundless_more : (rows : List Binary) (there : ℕ → Bool) (steps : List Step) (s : Step) → IsGroundless rows there steps → Falls rows there steps (length steps) s → IsGroundless rows there (steps ++ s ∷ [])
groundless_more rows there steps s g f = record {
  each = λ n step at. elim (at_either steps s n step at) [
    | inl old ↦ (let e = g.each n step old in record { is = e.is; here = e.here; unmet = λ k other stands on does. named_more steps s n n k (omega arith) (e.unmet k other stands on does) })
    | inr new ↦ subst (λ m. Falls rows there (steps ++ s ∷ []) m step) (sym new.0) (subst (λ t. Falls rows there (steps ++ s ∷ []) (length steps) t) (sym new.1)
        (record { is = f.is; here = f.here; unmet = λ k other stands on does. named_more steps s (length steps) (length steps) k (omega arith) (f.unmet k other stands on does) }))
  ];
}

-- what holds while the needed steps are picked
pub record IsPicked (rows : List Binary) (order : List Step) (needed : List Bool) (n : ℕ) (steps : List Step) : Type 0 where
  pub named : (i : ℕ) (s : Step) → i < n → slice_get order i ≡ Some s → marked needed i ≡ true → IsNamed steps (length steps) s.place
  pub groundless : (there : ℕ → Bool) → IsGroundless rows there order → IsGroundless rows there steps

pub pick_none : (rows : List Binary) (order : List Step) (needed : List Bool) → IsPicked rows order needed 0 []
pick_none rows order needed = record {
  named = λ i s h. absurd (omega (arith, h));
  groundless = λ there g. record { each = λ n step at. absurd (omega (arith, slice_get_within [] n step at)) };
}

pub pick_out : (rows : List Binary) (order : List Step) (needed : List Bool) (n : ℕ) (steps : List Step) → marked needed n ≡ false → IsPicked rows order needed n steps → IsPicked rows order needed (n + 1) steps
pick_out rows order needed n steps off p = record {
  named = λ i s h at on. elim (cases_lt i n) [
    | inl l ↦ p.named i s l at on
    | inr g ↦ (let same : i ≡ n = omega (arith, h, g) in absurd (false≢true (sym off ∙ ap (marked needed) (sym same) ∙ on)))
  ];
  groundless = p.groundless;
}

pub pick_more : (rows : List Binary) (order : List Step) (needed : List Bool) (last n : ℕ) (steps : List Step) (s : Step) → IsNeeded rows order needed last 0 → n ≤ last → slice_get order n ≡ Some s → marked needed n ≡ true → IsPicked rows order needed n steps → IsPicked rows order needed (n + 1) (steps ++ s ∷ [])
pick_more rows order needed last n steps s need h at here p = record {
  named = λ i t l at_i on. elim (cases_lt i n) [
    | inl less ↦ named_more steps s (length steps) (length (steps ++ s ∷ [])) t.place (omega (arith, length-append steps (s ∷ []))) (p.named i t less at_i on)
    | inr g ↦ (
        let same : i ≡ n = omega (arith, l, g) in
        let alike : s ≡ t = same_Some s t (sym at ∙ sym (ap (slice_get order) same) ∙ at_i) in
        record { number = length steps; step = s; earlier = omega (arith, length-append steps (s ∷ [])); stands = at_end steps s; same = ap (λ (x : Step). x.place) alike })
  ];
  groundless = λ there g.
      let f = g.each n s at in
      groundless_more rows there steps s (p.groundless there g) (record {
        is = f.is;
        here = f.here;
        unmet = λ k other stands on does.
            let b = f.unmet k other stands on does in
            let provider : IsProvider rows order n f.is.clause b.number = record { step = b.step; row = other; earlier = b.earlier; is = b.stands; stands = ap (slice_get rows) b.same ∙ stands; does = does } in
            let m = need.done n s f.is.clause b.number (omega arith) h at here (record { row = f.is.row; stands = f.is.stands; needs = f.is.needs }) provider in
            let x = p.named b.number b.step b.earlier b.stands m in
            record { number = x.number; step = x.step; earlier = x.earlier; stands = x.stands; same = x.same ∙ b.same };
      });
}

pub pick_all : (rows : List Binary) (order : List Step) (needed : List Bool) (last : ℕ) (steps : List Step) (s : Step) → IsNeeded rows order needed last 0 → slice_get order last ≡ Some s → IsPicked rows order needed last steps → (step : Step) → slice_get order last ≡ Some step → IsCertificate rows order step (steps ++ s ∷ [])
pick_all rows order needed last steps s need at p step at_step =
    let same : s ≡ step = same_Some s step (sym at ∙ at_step) in
    record {
      front = steps;
      ends = ap (λ x. steps ++ x ∷ []) same;
      groundless = (pick_more rows order needed last last steps s need (omega arith) at need.ends p).groundless;
    }

-- what holds while needs are followed

pub need_none : (rows : List Binary) (order : List Step) (needed : List Bool) (last : ℕ) → length needed ≡ length order → last < length needed → IsNeeded rows order (set needed last true) last (last + 1)
need_none rows order needed last e h = record {
  long = length-set needed last true ∙ e;
  ends = get_or-set_same needed last true false h;
  done = λ n step clause m low high. absurd (omega (arith, low, high));
}

pub need_out : (rows : List Binary) (order : List Step) (needed : List Bool) (last number : ℕ) → marked needed number ≡ false → IsNeeded rows order needed last (number + 1) → IsNeeded rows order needed last number
need_out rows order needed last number off p = record {
  long = p.long;
  ends = p.ends;
  done = λ n step clause m low high at on of b. elim (cases_lt number n) [
    | inl l ↦ p.done n step clause m (omega (arith, l)) high at on of b
    | inr g ↦ (let same : n ≡ number = omega (arith, low, g) in absurd (false≢true (sym off ∙ ap (marked needed) (sym same) ∙ on)))
  ];
}

pub need_more : (rows : List Binary) (order : List Step) (needed new : List Bool) (last number : ℕ) → IsMarkedFor rows order needed new number → IsNeeded rows order needed last (number + 1) → IsNeeded rows order new last number
need_more rows order needed new last number f p = record {
  long = f.long ∙ p.long;
  ends = f.grown last p.ends;
  done = λ n step clause m low high at on of b. elim (cases_lt number n) [
    | inl l ↦ f.grown m (p.done n step clause m (omega (arith, l)) high at (sym (f.above n low) ∙ on) of b)
    | inr g ↦ (let same : n ≡ number = omega (arith, low, g) in f.done step clause m (ap (slice_get order) (sym same) ∙ at) of (subst (λ x. IsProvider rows order x clause m) same b))
  ];
}
