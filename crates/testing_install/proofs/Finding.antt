use Rattle.std.proofs.Common.{◌≡◌, ℕ, zero, suc, ◌+◌, ◌<◌, ◌≤◌, Bool, true, ◌||◌, List, [], ◌∷◌, ◌++◌, length, map, get_or, drop, Some, None, get_or-drop, length-drop, sym, ap, ◌∙◌, subst, inl, inr, arith}
use Rattle.std.specs.List.{slice_get, All, AllWithin, Contains, list_any}
use Rattle.std.specs.Str.{bytes_eq}
use Rattle.std.proofs.lemmas.Option.{slice_get_within, get_or_from_slice_get}
use Rattle.std.proofs.lemmas.Bool.{false≢true, or_cases, or_right, cases_Bool, and_parts}
use Rattle.std.proofs.lemmas.List.{drop_more, append_assoc}
use Rattle.deb_control.specs.declared.binary.Binary.{Binary}
use Rattle.deb_control.specs.declared.relation.Provision.{Provision}
use Rattle.deb_control.specs.declared.relation.Alternative.{Alternative}
use Rattle.deb_control.specs.declared.relation.Clause.{Clause}
use Rattle.testing_install.specs.Satisfies.{fits, is_itself, is_provided, gives, satisfies}
use Rattle.testing_install.specs.Closed.{IsMet}
use Rattle.testing_install.specs.Index.{provides_name, PlacesByName, places_at}
use Rattle.testing_install.specs.steps.Index.{IsIndex}
use Rattle.testing_install.specs.steps.Claims.{tagged, claims_from}
use Rattle.testing_install.specs.steps.Ground.{Misses}

-- an element that passes
pub any_true : {X : Type 0} (p : X → Bool) (xs : List X) (i : ℕ) (d : X) → i < length xs → p (get_or xs i d) ≡ true → list_any p xs ≡ true
any_true p [] i d h e = absurd (omega arith)
any_true p (x ∷ xs) zero d h e = ap (λ b. b || list_any p xs) e
any_true p (x ∷ xs) (suc i) d h e = elim (cases_Bool (p x)) [
  | inl here ↦ ap (λ b. b || list_any p xs) here
  | inr not_here ↦ ap (λ b. b || list_any p xs) not_here ∙ any_true p xs i d (omega arith) e
]

-- where some passes, one is at a place
pub any_at : {X : Type 0} (p : X → Bool) (xs : List X) → list_any p xs ≡ true → (j : ℕ) × (j < length xs) × ((d : X) → p (get_or xs j d) ≡ true)
any_at p [] e = absurd (false≢true e)
any_at p (x ∷ xs) e = elim (or_cases (p x) (list_any p xs) e) [
  | inl here ↦ (0, omega arith, λ d. here)
  | inr later ↦ (let f = any_at p xs later in (suc f.0, omega (arith, f.1), f.2))
]

-- some provision with the name
provided_provides : (ps : List Provision) (a : Alternative) → list_any (λ p. gives p a) ps ≡ true → list_any (λ p. bytes_eq p.name a.name) ps ≡ true
provided_provides ps a e = let f = any_at (λ p. gives p a) ps e in let d : Provision = record { name = []; version = None } in any_true (λ p. bytes_eq p.name a.name) ps f.0 d f.1 (and_parts _ _ (f.2 d)).0

-- what satisfies an alternative provides its name
pub satisfies_provides : (row : Binary) (a : Alternative) → satisfies row a ≡ true → provides_name row a.name ≡ true
satisfies_provides row a e = elim (or_cases (is_itself row a) (is_provided row a) e) [
  | inl itself ↦ ap (λ b. b || list_any (λ p. bytes_eq p.name a.name) row.provides) (and_parts (bytes_eq row.name a.name) (fits a.relation (Some row.version)) itself).0
  | inr given ↦ or_right (bytes_eq row.name a.name) (list_any (λ p. bytes_eq p.name a.name) row.provides) (provided_provides row.provides a given)
]

-- the row at the place doesn't satisfy the alternative, or isn't in the set
pub record IsOut (rows : List Binary) (set : ℕ → Bool) (a : Alternative) (k : ℕ) : Type 0 where
  pub each : (row : Binary) → slice_get rows k ≡ Some row → set k ≡ true → satisfies row a ≡ true → ⊥

pub misses_places : (rows : List Binary) (set : ℕ → Bool) (a : Alternative) (places : List ℕ) (n : ℕ) → AllWithin (IsOut rows set a) places 0 n → length places ≤ n → Misses rows set a places
misses_places rows set a places n out h = record { each = λ k row c at on does. (subst (IsOut rows set a) c.2 (out c.0 k (omega arith) (omega (arith, c.1)))).each row at on does }

-- no row of the set satisfies the alternative
pub record IsUnsatisfied (rows : List Binary) (set : ℕ → Bool) (a : Alternative) : Type 0 where
  pub each : (k : ℕ) (row : Binary) → slice_get rows k ≡ Some row → set k ≡ true → satisfies row a ≡ true → ⊥

pub unsatisfied : (rows : List Binary) (map : PlacesByName) (set : ℕ → Bool) (a : Alternative) (places : List ℕ) (name : List ℕ) → IsIndex rows map → places ≡ places_at map name → name ≡ a.name → Misses rows set a places → IsUnsatisfied rows set a
unsatisfied rows map set a places name index e named misses = record {
  each = λ k row at on does.
      let there = index.complete a.name k row at (satisfies_provides row a does) in
      let same : places_at map a.name ≡ places = ap (places_at map) (sym named) ∙ sym e in
      misses.each k row (subst (λ xs. Contains xs k) same there) at on does;
}

-- no alternative is satisfied
pub unmet : (rows : List Binary) (set : ℕ → Bool) (clause : Clause) (n : ℕ) → AllWithin (IsUnsatisfied rows set) clause 0 n → length clause ≤ n → IsMet rows set clause → ⊥
unmet rows set clause n out h met =
    let f = any_at (λ a. satisfies met.1 a) clause met.4 in
    let d : Alternative = record { name = []; relation = None } in
    (out f.0 d (omega arith) (omega (arith, f.1))).each met.0 met.1 met.2 met.3 (f.2 d)

-- the element at a place, and what comes after
pub drop_at_some : {X : Type 0} (xs : List X) (n : ℕ) (x : X) → slice_get xs n ≡ Some x → drop n xs ≡ x ∷ drop (n + 1) xs
drop_at_some xs n x at = drop_more xs n x (slice_get_within xs n x at) ∙ ap (λ y. y ∷ drop (n + 1) xs) (get_or_from_slice_get xs n x x at)

pub within_places : (ps places : List ℕ) (m n : ℕ) → ps ≡ places → m ≡ n → All (λ k. k < m) places → All (λ k. k < n) ps
within_places ps places m n e f all = λ k d h. let l : k < length places = rw (ap length e) at h in let b = all k d l in omega (arith, ap (λ xs. get_or xs k d) e, b)

pub within_rest : (ps named places : List ℕ) (m n : ℕ) → ((i : ℕ) × (ps ≡ drop i named)) → named ≡ places → m ≡ n → All (λ k. k < m) places → All (λ k. k < n) ps
within_rest ps named places m n cut e f all = λ k d h.
    let short = ap length cut.1 in
    let read = ap (λ xs. get_or xs k d) cut.1 ∙ get_or-drop cut.0 named k d ∙ ap (λ xs. get_or xs (cut.0 + k) d) e in
    let within : cut.0 + k < length places = omega (arith, h, short, length-drop cut.0 named, ap length e) in
    omega (arith, read, all (cut.0 + k) d within)

-- the claims so far, and those of the rows that are left
pub claims_more : (whole old new : List (ℕ × Clause)) (rows : List Binary) (n : ℕ) (row : Binary) (clauses : List Clause) → slice_get rows n ≡ Some row → clauses ≡ row.clauses → new ≡ old ++ tagged n clauses → old ++ claims_from n (drop n rows) ≡ whole → new ++ claims_from (n + 1) (drop (n + 1) rows) ≡ whole
claims_more whole old new rows n row clauses at are e so_far =
    let rest = claims_from (n + 1) (drop (n + 1) rows) in
    ap (λ x. x ++ rest) e ∙ append_assoc old (tagged n clauses) rest ∙ ap (λ c. old ++ (tagged n c ++ rest)) are ∙ sym (ap (λ l. old ++ claims_from n l) (drop_at_some rows n row at)) ∙ so_far
