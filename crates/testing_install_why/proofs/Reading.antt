use Rattle.std.proofs.Common.{◌≡◌, ℕ, ◌+◌, ◌<◌, ◌≤◌, Bool, false, List, [], ◌∷◌, ◌++◌, length, get_or, Some, sym, refl, ap, ◌∙◌, subst, inl, inr, arith}
use Rattle.std.specs.List.{slice_get}
use Rattle.std.proofs.lemmas.Option.{slice_get_within, slice_get_read, same_Some}
use Rattle.std.proofs.lemmas.Bool.{cases_lt, false≢true}
use Rattle.std.proofs.lemmas.List.{append_assoc, append-nil}
use Rattle.deb_control.specs.declared.binary.Binary.{Binary}
use Rattle.deb_control.specs.declared.relation.Clause.{Clause}
use Rattle.testing_install.specs.Closed.{IsMet}
use Rattle.testing_install.specs.Satisfies.{meets}
use Rattle.testing_install_why.specs.declared.Step.{Step}
use Rattle.testing_install_why.specs.Order.{IsStep, IsGroundless}
use Rattle.testing_install_why.specs.steps.Chain.{IsMetAt, IsChain}
use Rattle.testing_install_why.specs.steps.Providers.{IsProvider, IsNext, IsLast}
use Rattle.testing_install_why.specs.steps.Steps.{AreSteps, IsClauseOf}

-- a step's row and clause can be read

pub place_in : (rows : List Binary) (s : Step) → IsStep rows s → s.place < length rows
place_in rows s i = slice_get_within rows s.place i.row i.stands

pub need_in : (rows : List Binary) (s : Step) (row : Binary) → IsStep rows s → slice_get rows s.place ≡ Some row → s.need < length row.clauses
need_in rows s row i at =
    let same : row ≡ i.row = same_Some row i.row (sym at ∙ i.stands) in
    omega (arith, slice_get_within i.row.clauses s.need i.clause i.needs, ap (λ (r : Binary). length r.clauses) same)

pub clause_is : (rows : List Binary) (s : Step) (row : Binary) (clause : Clause) → IsStep rows s → slice_get rows s.place ≡ Some row → clause ≡ get_or row.clauses s.need clause → IsClauseOf rows s clause
clause_is rows s row clause i at e = record { row = row; stands = at; needs = slice_get_read row.clauses (length row.clauses) s.need clause refl (need_in rows s row i at) e }

-- a step has one clause
pub one_clause : (rows : List Binary) (s : Step) (clause : Clause) (i : IsStep rows s) → IsClauseOf rows s clause → clause ≡ i.clause
one_clause rows s clause i c =
    let same : c.row ≡ i.row = same_Some c.row i.row (sym c.stands ∙ i.stands) in
    same_Some clause i.clause (sym c.needs ∙ ap (λ (r : Binary). slice_get r.clauses s.need) same ∙ i.needs)

-- no row of the first n steps meets the clause
pub record NoneBelow (rows : List Binary) (order : List Step) (end : ℕ) (clause : Clause) (n : ℕ) : Type 0 where
  pub each : (m : ℕ) → m < n → IsProvider rows order end clause m → ⊥

pub none_below : (rows : List Binary) (order : List Step) (end : ℕ) (clause : Clause) → NoneBelow rows order end clause 0
none_below rows order end clause = record { each = λ m h. absurd (omega (arith, h)) }

pub none_more : (rows : List Binary) (order : List Step) (end : ℕ) (clause : Clause) (n : ℕ) (step : Step) (row : Binary) → slice_get order n ≡ Some step → slice_get rows step.place ≡ Some row → meets row clause ≡ false → NoneBelow rows order end clause n → NoneBelow rows order end clause (n + 1)
none_more rows order end clause n step row at stands misses below = record {
  each = λ m h b. elim (cases_lt m n) [
    | inl l ↦ below.each m l b
    | inr g ↦ (
        let same : m ≡ n = omega (arith, h, g) in
        let s : b.step ≡ step = same_Some b.step step (sym b.is ∙ ap (slice_get order) same ∙ at) in
        let r : b.row ≡ row = same_Some b.row row (sym b.stands ∙ ap (λ (t : Step). slice_get rows t.place) s ∙ stands) in
        false≢true (sym misses ∙ ap (λ (x : Binary). meets x clause) (sym r) ∙ b.does))
  ];
}

pub none_all : (rows : List Binary) (order : List Step) (end : ℕ) (clause : Clause) (n : ℕ) → end ≤ n → NoneBelow rows order end clause n → (m : ℕ) → IsProvider rows order end clause m → ⊥
none_all rows order end clause n h below m b = below.each m (omega (arith, h, b.earlier)) b

-- what holds while a chain is followed: a chain from the last step is joined to it
pub record IsFollowed (rows : List Binary) (order : List Step) (first last : ℕ) (rest : List Step) : Type 0 where
  pub within : last < length order
  pub joins : (there : ℕ → Bool) → IsGroundless rows there order → (s t : Step) → slice_get order first ≡ Some s → slice_get order last ≡ Some t → (more : List Step) → IsChain rows there order t more → IsChain rows there order s (rest ++ more)

pub follow_none : (rows : List Binary) (order : List Step) (first : ℕ) → first < length order → IsFollowed rows order first first []
follow_none rows order first h = record { within = h; joins = λ there g s t at_s at_t more c. subst (λ x. IsChain rows there order x more) (same_Some t s (sym at_t ∙ at_s)) c }

pub follow_more : (rows : List Binary) (order : List Step) (first last next : ℕ) (rest : List Step) (u : Step) → IsFollowed rows order first last rest → IsNext rows order last next → slice_get order next ≡ Some u → IsFollowed rows order first next (rest ++ u ∷ [])
follow_more rows order first last next rest u f n at = record {
  within = slice_get_within order next u at;
  joins = λ there g s t at_s at_t more c.
      let here = g.each last n.step n.is in
      let b = n.provider in
      let fell = g.each next b.step b.is in
      let same : b.step ≡ t = same_Some b.step t (sym b.is ∙ at_t) in
      let alike : u ≡ t = same_Some u t (sym at ∙ at_t) in
      let one : n.clause ≡ here.is.clause = one_clause rows n.step n.clause here.is n.of in
      let met : IsMetAt rows there here.is.clause b.step.place = record { row = b.row; stands = b.stands; here = fell.here; does = ap (meets b.row) (sym one) ∙ b.does } in
      let met_t : IsMetAt rows there here.is.clause t.place = subst (λ (x : Step). IsMetAt rows there here.is.clause x.place) same met in
      let longer : IsChain rows there order s (rest ++ t ∷ more) = f.joins there g s n.step at_s n.is (t ∷ more) (record { number = last; stands = n.is }, here.is, met_t, c) in
      subst (λ xs. IsChain rows there order s xs) (sym (append_assoc rest (u ∷ []) more)) (subst (λ x. IsChain rows there order s (rest ++ x ∷ more)) (sym alike) longer);
}

pub follow_all : (rows : List Binary) (order : List Step) (first last : ℕ) (rest : List Step) → IsFollowed rows order first last rest → IsLast rows order last → (there : ℕ → Bool) → IsGroundless rows there order → (s : Step) → slice_get order first ≡ Some s → IsChain rows there order s rest
follow_all rows order first last rest f l there g s at =
    let here = g.each last l.step l.is in
    let one : l.clause ≡ here.is.clause = one_clause rows l.step l.clause here.is l.of in
    let unmet : IsMet rows there here.is.clause → ⊥ = (λ met.
    let b = here.unmet met.0 met.1 met.2 met.3 met.4 in
    l.none b.number (record { step = b.step; row = met.1; earlier = b.earlier; is = b.stands; stands = ap (slice_get rows) b.same ∙ met.2; does = ap (meets met.1) one ∙ met.4 })) in
    subst (λ xs. IsChain rows there order s xs) (append-nil rest) (f.joins there g s l.step at l.is [] (record { number = last; stands = l.is }, here.is, unmet))

-- what is shown line by line has its lines
pub are_steps : (rows : List Binary) (there : ℕ → Bool) (steps : List Step) → IsGroundless rows there steps → AreSteps rows steps
are_steps rows there steps g = record { each = λ n step at. (g.each n step at).is }
