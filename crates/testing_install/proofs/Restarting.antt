-- Where the search for the greatest closed set may start after a change of the rows that are there.
use Rattle.std.proofs.Common.{◌≡◌, ℕ, Bool, true, false, ◌&&◌, ◌||◌, not, ◌⊎◌, List, get_or, Some, sym, refl, ap, ◌∙◌, ⊎_elim, inl, inr}
use Rattle.std.specs.List.{slice_get}
use Rattle.std.proofs.lemmas.Option.{slice_get_within}
use Rattle.std.proofs.lemmas.Bool.{cases_Bool, false≢true, or_cases, or_right, and_parts}
use Rattle.deb_control.specs.declared.binary.Binary.{Binary}
use Rattle.testing_install.specs.Satisfies.{meets}
use Rattle.testing_install.specs.Closed.{IsClosed, IsInside}
use Rattle.testing_install.specs.steps.Among.{IsGreatestAmong, may_need}
use Rattle.testing_install.proofs.Sweeping.{met_by_larger}
use Rattle.testing_install.proofs.Finding.{any_true}

not_true : (c : Bool) → not c ≡ true → c ≡ false
not_true true h = absurd (false≢true h)
not_true false h = refl

joined_old : (a b : Bool) → a ≡ true → (a || b) ≡ true
joined_old a b h = ap (λ x. x || b) h

joined_new : (a b c : Bool) → b ≡ true → c ≡ false → (a || (b && not c)) ≡ true
joined_new a b c h k = or_right a (b && not c) (ap (λ x. x && not c) h ∙ ap (λ x. not x) k)

joined_cases : (a b c : Bool) → (a || (b && not c)) ≡ true → (a ≡ true) ⊎ ((b ≡ true) × (c ≡ false))
joined_cases a b c h = elim (or_cases a (b && not c) h) [
  | inl old ↦ inl old
  | inr new ↦ inr ((and_parts b (not c) new).0, not_true c (and_parts b (not c) new).1)
]

module _ (rows : List Binary) (old_there old_set there start other : ℕ → Bool) (g : IsGreatestAmong rows old_there old_set) (kept : (k : ℕ) → old_set k ≡ true → there k ≡ true → start k ≡ true) (came : (k : ℕ) → there k ≡ true → old_there k ≡ false → start k ≡ true) (revived : (k : ℕ) (row : Binary) (o : ℕ) (dependent : Binary) → slice_get rows k ≡ Some row → start k ≡ true → old_set k ≡ false → slice_get rows o ≡ Some dependent → there o ≡ true → may_need dependent row ≡ true → start o ≡ true) (closed : IsClosed rows other) (within : IsInside rows other there) where
  -- the old set, and what of the other set the start leaves out
  abbrev joined : ℕ → Bool
  joined k = old_set k || (other k && not (start k))

  joined_inside : IsInside rows joined old_there
  joined_inside k h on = elim (joined_cases (old_set k) (other k) (start k) on) [
    | inl was ↦ g.inside k was
    | inr new ↦ ⊎_elim (λ yes. yes) (λ no. absurd (false≢true (sym new.1 ∙ came k (within k h new.0) no))) (cases_Bool (old_there k))
  ]

  joined_closed : IsClosed rows joined
  joined_closed k row at on i d l = elim (joined_cases (old_set k) (other k) (start k) on) [
    | inl was ↦ met_by_larger rows old_set joined (get_or row.clauses i d) (λ j h o. joined_old (old_set j) (other j && not (start j)) o) (g.closed k row at was i d l)
    | inr new ↦ (
        let m = closed k row at new.0 i d l in
        let here = within k (slice_get_within rows k row at) new.0 in
        let in_both : joined m.0 ≡ true = ⊎_elim
        (λ started. ⊎_elim
        (λ was. joined_old (old_set m.0) (other m.0 && not (start m.0)) was)
        (λ was_not. absurd (false≢true (sym new.1 ∙ revived m.0 m.1 k row m.2 started was_not at here (any_true (λ clause. meets m.1 clause) row.clauses i d l m.4))))
        (cases_Bool (old_set m.0)))
        (λ left_out. joined_new (old_set m.0) (other m.0) (start m.0) m.3 left_out)
        (cases_Bool (start m.0)) in
        (m.0, m.1, m.2, in_both, m.4))
  ]

  -- every closed set of the rows that are there is inside a start that has the rows of the old set that stayed, those
  -- that came, and each row that is there and that a row of the start which wasn't in the old set may have revived
  pub restart : IsInside rows other start
  restart k h on = ⊎_elim (λ yes. yes) (λ no. kept k (g.greatest joined joined_closed joined_inside k h (joined_new (old_set k) (other k) (start k) on no)) (within k h on)) (cases_Bool (start k))
