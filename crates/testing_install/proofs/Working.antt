use Rattle.std.proofs.Common.{◌≡◌, ℕ, zero, suc, ◌+◌, ◌<◌, ◌≤◌, Bool, true, false, not, ◌⊎◌, cond, eqb, List, [], ◌∷◌, ◌++◌, length, get_or, set, replicate, Some, sym, refl, ap, ◌∙◌, subst, inl, inr, arith}
use Rattle.std.specs.List.{slice_get, count_by, sum_by, range_with_len}
use Rattle.std.proofs.lemmas.Option.{slice_get_within, same_Some}
use Rattle.std.proofs.lemmas.Bool.{cases_lt, cases_eq, false≢true, eq-eqb}
use Rattle.std.proofs.lemmas.List.{length-set, length-append, length-replicate, get_or-replicate, get_or-set_same, get_or-set_other}
use Rattle.std.proofs.lemmas.List.Sums.{sum_by-cons, sum_by-append, sum_by-set, get_or-le-sum_by}
use Rattle.deb_control.specs.declared.binary.Binary.{Binary}
use Rattle.deb_control.specs.declared.relation.Clause.{Clause}
use Rattle.testing_install.specs.Satisfies.{meets}
use Rattle.testing_install.specs.Closed.{IsMet, IsClosed, IsInside, marked}
use Rattle.testing_install.specs.steps.Closed.{IsGreatestClosed}
use Rattle.testing_install.specs.Claims.{clauses_of, pair_count}
use Rattle.testing_install.specs.steps.Claims.{claims_from}
use Rattle.testing_install.specs.steps.Work.{Work}
use Rattle.testing_install.specs.steps.Progress.{count_of, owner, clause, claim_count, gain, gain_of, gain_at, Rests, IsSound, IsBounded, IsWork}
use Rattle.testing_install.proofs.Counting.{count_of-cons, count_of-same, count_of-other, count_of-append, distinct-le-count, weight_full, weight-set, slice_get_some, count_both, range_within, range_after, range_at_most}
use Rattle.testing_install.proofs.Sweeping.{fewer_taken, met_by_larger}
use Rattle.testing_install.proofs.Claiming.{owner_within, closed_claim, closed_from_claims, length-claims_from, count_by-claims_from}

-- the lists after more was put at the end of one
grown : (lists : List (List ℕ)) (k c p : ℕ) (ys : List ℕ) → k < length lists → count_of c (get_or lists p []) ≤ count_of c (get_or (set lists k (get_or lists k [] ++ ys)) p [])
grown lists k c p ys h = elim (cases_eq p k) [
  | inl e ↦ (
      let at = ap (λ q. get_or (set lists k (get_or lists k [] ++ ys)) q []) e ∙ get_or-set_same lists k (get_or lists k [] ++ ys) [] h in
      omega (arith, ap (count_of c) at, ap (λ q. count_of c (get_or lists q [])) e, count_of-append c (get_or lists k []) ys))
  | inr n ↦ omega (arith, ap (count_of c) (get_or-set_other lists k p (get_or lists k [] ++ ys) [] n))
]

-- what is new in them
grown_in : (lists : List (List ℕ)) (k c p d : ℕ) → k < length lists → 0 < count_of d (get_or (set lists k (get_or lists k [] ++ c ∷ [])) p []) → (0 < count_of d (get_or lists p [])) ⊎ ((p ≡ k) × (d ≡ c))
grown_in lists k c p d h some = elim (cases_eq p k) [
  | inl e ↦ (
      let at = ap (λ q. get_or (set lists k (get_or lists k [] ++ c ∷ [])) q []) e ∙ get_or-set_same lists k (get_or lists k [] ++ c ∷ []) [] h in
      let now = ap (count_of d) at in
      let split = count_of-append d (get_or lists k []) (c ∷ []) in
      elim (cases_eq d c) [
        | inl same ↦ inr (e, same)
        | inr differs ↦ inl (omega (arith, now, split, count_of-other d c [] (λ f. differs (sym f)), ap (λ q. count_of d (get_or lists q [])) e))
      ])
  | inr n ↦ inl (omega (arith, ap (count_of d) (get_or-set_other lists k p (get_or lists k [] ++ c ∷ []) [] n)))
]

-- what is marked after one mark is gone
pub still_marked : (marks : List Bool) (o p : ℕ) → o < length marks → marked (set marks o false) p ≡ true → (p ≡ o → ⊥) × (marked marks p ≡ true)
still_marked marks o p h on =
    let differs : p ≡ o → ⊥ = (λ e. let at = ap (λ q. get_or (set marks o false) q false) e ∙ get_or-set_same marks o false false h in false≢true (sym at ∙ on)) in
    (differs, sym (get_or-set_other marks o p false false differs) ∙ on)

-- one row has one value
pub same_row : (rows : List Binary) (p k : ℕ) (r row : Binary) → p ≡ k → slice_get rows p ≡ Some r → slice_get rows k ≡ Some row → row ≡ r
same_row rows p k r row e a b = same_Some row r (sym b ∙ sym (ap (slice_get rows) e) ∙ a)

module _ (rows : List Binary) (w : Work) (c : ℕ) (todo : List ℕ) (k : ℕ) (row : Binary) (looks : ℕ) (sound : IsSound rows w (c ∷ todo)) (at : slice_get rows k ≡ Some row) (here : marked w.marks k ≡ true) (does : meets row (clause rows c) ≡ true) where
  abbrev pub more : List (List ℕ)
  more = set w.resting k (get_or w.resting k [] ++ c ∷ [])

  k_in : k < length w.resting
  k_in = omega (arith, slice_get_within rows k row at, sound.resting_len)

  c_in : c < claim_count rows
  c_in = sound.todo_in c (omega (arith, count_of-same c todo))

  rest_in : (p : ℕ) (r : Binary) (d : ℕ) → slice_get rows p ≡ Some r → 0 < count_of d (get_or more p []) → (d < claim_count rows) × (meets r (clause rows d) ≡ true)
  rest_in p r d stands some = elim (grown_in w.resting k c p d k_in some) [
    | inl old ↦ sound.resting_in p r d stands old
    | inr new ↦ (
        let same : row ≡ r = same_row rows p k r row new.0 stands at in
        let within : d < claim_count rows = omega (arith, c_in, new.1) in
        (within, subst (λ x. meets r (clause rows x) ≡ true) (sym new.1) (subst (λ x. meets x (clause rows c) ≡ true) same does)))
  ]

  rest_rests : (d : ℕ) → d < claim_count rows → count_of d todo ≡ 0 → marked w.marks (owner rows d) ≡ true → Rests rows (record w { resting = more; looks = looks }) d
  rest_rests d h none on = elim (cases_eq d c) [
    | inl e ↦ (
        let now = ap (count_of d) (get_or-set_same w.resting k (get_or w.resting k [] ++ c ∷ []) [] k_in) in
        let one : eqb c d ≡ true = eq-eqb c d (sym e) in
        record { place = k; row = row; stands = at; here = inl here; listed = omega (arith, now, count_of-append d (get_or w.resting k []) (c ∷ []), count_of-cons d c [], ap (λ t. cond t (suc 0) 0) one); does = subst (λ x. meets row (clause rows x) ≡ true) (sym e) does })
    | inr n ↦ (
        let r = sound.rests d h (omega (arith, count_of-other d c todo (λ f. n (sym f)))) on in
        record { place = r.place; row = r.row; stands = r.stands; here = r.here; listed = omega (arith, r.listed, grown w.resting k d r.place (c ∷ []) k_in); does = r.does })
  ]

  -- the next claim rests on a marked row
  pub sound_rest : IsSound rows (record w { resting = more; looks = looks }) todo
  sound_rest = record {
    marks_len = sound.marks_len;
    resting_len = length-set w.resting k _ ∙ sound.resting_len;
    waiting_in = sound.waiting_in;
    todo_in = λ d h. sound.todo_in d (omega (arith, count_of-cons d c todo));
    resting_in = rest_in;
    rests = rest_rests;
    keeps = sound.keeps;
  }

  pub bounded_rest : IsBounded rows w (c ∷ todo) → looks ≤ w.looks + 1 → IsBounded rows (record w { resting = more; looks = looks }) todo
  bounded_rest bounded few = record {
    once = λ d. omega (arith, bounded.once d, count_of-cons d c todo, count_of-cons d c [], count_of-append d (get_or w.resting k []) (c ∷ []), sum_by-set (λ xs. count_of d xs) w.resting k (get_or w.resting k [] ++ c ∷ []) [] k_in);
    balance = bounded.balance;
    cost = omega (arith, bounded.cost);
  }

module _ (rows : List Binary) (w : Work) (c : ℕ) (todo : List ℕ) (looks : ℕ) (sound : IsSound rows w (c ∷ todo)) (here : marked w.marks (owner rows c) ≡ true) (unmet : IsMet rows (marked w.marks) (clause rows c) → ⊥) where
  lost_claim : c < claim_count rows
  lost_claim = sound.todo_in c (omega (arith, count_of-same c todo))

  lost_in : owner rows c < length rows
  lost_in = owner_within rows c lost_claim

  lost_row : (row : Binary) × (slice_get rows (owner rows c) ≡ Some row)
  lost_row = slice_get_some rows (owner rows c) lost_in

  lost_waits : (p : ℕ) → p ≡ owner rows c → 0 < count_of p (w.waiting ++ owner rows c ∷ [])
  lost_waits p e = let one : eqb (owner rows c) p ≡ true = eq-eqb (owner rows c) p (sym e) in omega (arith, count_of-append p w.waiting (owner rows c ∷ []), count_of-cons p (owner rows c) [], ap (λ t. cond t (suc 0) 0) one)

  lost_waiting : (k : ℕ) → 0 < count_of k (w.waiting ++ owner rows c ∷ []) → k < length rows
  lost_waiting k some = elim (cases_eq k (owner rows c)) [
    | inl e ↦ omega (arith, lost_in)
    | inr n ↦ sound.waiting_in k (omega (arith, count_of-append k w.waiting (owner rows c ∷ []), count_of-other k (owner rows c) [] (λ f. n (sym f))))
  ]

  lost_rests : (d : ℕ) → d < claim_count rows → count_of d todo ≡ 0 → marked (set w.marks (owner rows c) false) (owner rows d) ≡ true → Rests rows (record w { marks = set w.marks (owner rows c) false; waiting = w.waiting ++ owner rows c ∷ []; looks = looks }) d
  lost_rests d h none on =
      let was = still_marked w.marks (owner rows c) (owner rows d) (omega (arith, lost_in, sound.marks_len)) on in
      let other : c ≡ d → ⊥ = (λ e. was.0 (ap (owner rows) (sym e))) in
      let r = sound.rests d h (omega (arith, count_of-other d c todo other)) was.1 in
      let stays : (marked (set w.marks (owner rows c) false) r.place ≡ true) ⊎ (0 < count_of r.place (w.waiting ++ owner rows c ∷ [])) = elim r.here [
        | inl is_marked ↦ elim (cases_eq r.place (owner rows c)) [
          | inl e ↦ inr (lost_waits r.place e)
          | inr n ↦ inl (get_or-set_other w.marks (owner rows c) r.place false false n ∙ is_marked)
        ]
        | inr waits ↦ inr (omega (arith, waits, count_of-append r.place w.waiting (owner rows c ∷ [])))
      ] in
      record { place = r.place; row = r.row; stands = r.stands; here = stays; listed = r.listed; does = r.does }

  lost_keeps : (other : ℕ → Bool) → IsClosed rows other → IsInside rows other (marked (set w.marks (owner rows c) false))
  lost_keeps other closed k h on = elim (cases_eq k (owner rows c)) [
    | inl e ↦ absurd (unmet (met_by_larger rows other (marked w.marks) (clause rows c) (sound.keeps other closed) (closed_claim rows other closed c lost_claim (sym (ap other e) ∙ on))))
    | inr n ↦ get_or-set_other w.marks (owner rows c) k false false n ∙ sound.keeps other closed k h on
  ]

  -- the next claim rests on no marked row, so its row loses its mark
  pub sound_lose : IsSound rows (record w { marks = set w.marks (owner rows c) false; waiting = w.waiting ++ owner rows c ∷ []; looks = looks }) todo
  sound_lose = record {
    marks_len = length-set w.marks (owner rows c) false ∙ sound.marks_len;
    resting_len = sound.resting_len;
    waiting_in = lost_waiting;
    todo_in = λ d h. sound.todo_in d (omega (arith, count_of-cons d c todo));
    resting_in = sound.resting_in;
    rests = lost_rests;
    keeps = lost_keeps;
  }

  pub bounded_lose : IsBounded rows w (c ∷ todo) → looks ≤ w.looks + 1 → IsBounded rows (record w { marks = set w.marks (owner rows c) false; waiting = w.waiting ++ owner rows c ∷ []; looks = looks }) todo
  bounded_lose bounded few =
      let less = fewer_taken w.marks (owner rows c) (omega (arith, lost_in, sound.marks_len)) here in
      let longer = length-append w.waiting (owner rows c ∷ []) in
      let lighter = weight-set (gain rows) rows w.marks (owner rows c) lost_row.0 lost_row.1 here in
      let gained = ap (gain_of rows) lost_row.1 in
      let heavier = sum_by-append (gain_at rows) w.waiting (owner rows c ∷ []) in
      let alone = sum_by-cons (gain_at rows) (owner rows c) [] in
      record {
        once = λ d. omega (arith, bounded.once d, count_of-cons d c todo);
        balance = omega (arith, bounded.balance, less, longer);
        cost = omega (arith, bounded.cost, lighter, gained, heavier, alone);
      }

-- the next claim is one of a row that lost its mark before
pub sound_skip : (rows : List Binary) (w : Work) (c : ℕ) (todo : List ℕ) (looks : ℕ) → IsSound rows w (c ∷ todo) → marked w.marks (owner rows c) ≡ false → IsSound rows (record w { looks = looks }) todo
sound_skip rows w c todo looks sound gone = record {
  marks_len = sound.marks_len;
  resting_len = sound.resting_len;
  waiting_in = sound.waiting_in;
  todo_in = λ d h. sound.todo_in d (omega (arith, count_of-cons d c todo));
  resting_in = sound.resting_in;
  rests = λ d h none on.
      let other : c ≡ d → ⊥ = (λ e. false≢true (sym gone ∙ ap (λ x. marked w.marks (owner rows x)) e ∙ on)) in
      let r = sound.rests d h (omega (arith, count_of-other d c todo other)) on in
      record { place = r.place; row = r.row; stands = r.stands; here = r.here; listed = r.listed; does = r.does };
  keeps = sound.keeps;
}

pub bounded_skip : (rows : List Binary) (w : Work) (c : ℕ) (todo : List ℕ) (looks : ℕ) → IsBounded rows w (c ∷ todo) → looks ≤ w.looks + 1 → IsBounded rows (record w { looks = looks }) todo
bounded_skip rows w c todo looks bounded few = record {
  once = λ d. omega (arith, bounded.once d, count_of-cons d c todo);
  balance = bounded.balance;
  cost = omega (arith, bounded.cost);
}

module _ (rows : List Binary) (w : Work) (front : List ℕ) (k : ℕ) (sound : IsSound rows w []) (last : w.waiting ≡ front ++ k ∷ []) where
  turn_counts : (p : ℕ) → count_of p w.waiting ≡ count_of p front + count_of p (k ∷ [])
  turn_counts p = ap (count_of p) last ∙ count_of-append p front (k ∷ [])

  turn_in : k < length rows
  turn_in = sound.waiting_in k (omega (arith, turn_counts k, count_of-same k []))

  turn_row : (row : Binary) × (slice_get rows k ≡ Some row)
  turn_row = slice_get_some rows k turn_in

  turn_rests : (d : ℕ) → d < claim_count rows → count_of d (get_or w.resting k []) ≡ 0 → marked w.marks (owner rows d) ≡ true → Rests rows (record w { waiting = front; resting = set w.resting k []; turns = w.turns + 1 }) d
  turn_rests d h none on =
      let r = sound.rests d h refl on in
      let differs : r.place ≡ k → ⊥ = (λ e. let same = ap (λ q. count_of d (get_or w.resting q [])) e in omega (arith, r.listed)) in
      let stays : (marked w.marks r.place ≡ true) ⊎ (0 < count_of r.place front) = elim r.here [
        | inl is_marked ↦ inl is_marked
        | inr waits ↦ inr (omega (arith, waits, turn_counts r.place, count_of-other r.place k [] (λ f. differs (sym f))))
      ] in
      record { place = r.place; row = r.row; stands = r.stands; here = stays; listed = omega (arith, r.listed, ap (count_of d) (get_or-set_other w.resting k r.place [] [] differs)); does = r.does }

  turn_resting : (p : ℕ) (r : Binary) (d : ℕ) → slice_get rows p ≡ Some r → 0 < count_of d (get_or (set w.resting k []) p []) → (d < claim_count rows) × (meets r (clause rows d) ≡ true)
  turn_resting p r d stands some = elim (cases_eq p k) [
    | inl e ↦ (
        let at = ap (λ q. get_or (set w.resting k []) q []) e ∙ get_or-set_same w.resting k [] [] (omega (arith, turn_in, sound.resting_len)) in
        let none : count_of d (get_or (set w.resting k []) p []) ≡ 0 = ap (count_of d) at in
        absurd (omega (arith, some, none)))
    | inr n ↦ sound.resting_in p r d stands (omega (arith, some, ap (count_of d) (get_or-set_other w.resting k p [] [] n)))
  ]

  -- a waiting row has its turn
  pub sound_turn : IsSound rows (record w { waiting = front; resting = set w.resting k []; turns = w.turns + 1 }) (get_or w.resting k [])
  sound_turn = record {
    marks_len = sound.marks_len;
    resting_len = length-set w.resting k [] ∙ sound.resting_len;
    waiting_in = λ p h. sound.waiting_in p (omega (arith, turn_counts p));
    todo_in = λ d h. (sound.resting_in k turn_row.0 d turn_row.1 h).0;
    resting_in = turn_resting;
    rests = turn_rests;
    keeps = sound.keeps;
  }

  -- no more claims rest on a row than clauses that it meets
  turn_few : IsBounded rows w [] → length (get_or w.resting k []) ≤ gain rows turn_row.0
  turn_few bounded =
      let each : (c : ℕ) → count_of c (get_or w.resting k []) ≤ 1 = (λ c. omega (arith, bounded.once c, get_or-le-sum_by (λ xs. count_of c xs) w.resting k [] (omega (arith, turn_in, sound.resting_len)))) in
      let bound = distinct-le-count (λ (cl : ℕ × Clause). meets turn_row.0 cl.1) (claims_from 0 rows) (0, []) (get_or w.resting k []) each (λ c h. sound.resting_in k turn_row.0 c turn_row.1 h) in
      omega (arith, bound, count_by-claims_from (λ cl. meets turn_row.0 cl) 0 rows)

  pub bounded_turn : IsBounded rows w [] → IsBounded rows (record w { waiting = front; resting = set w.resting k []; turns = w.turns + 1 }) (get_or w.resting k [])
  bounded_turn bounded =
      let shorter = ap length last ∙ length-append front (k ∷ []) in
      let lighter = ap (λ xs. sum_by (gain_at rows) xs) last ∙ sum_by-append (gain_at rows) front (k ∷ []) in
      let alone = sum_by-cons (gain_at rows) k [] in
      let gained = ap (gain_of rows) turn_row.1 in
      record {
        once = λ d. omega (arith, bounded.once d, sum_by-set (λ xs. count_of d xs) w.resting k [] [] (omega (arith, turn_in, sound.resting_len)));
        balance = omega (arith, bounded.balance, shorter);
        cost = omega (arith, bounded.cost, lighter, alone, gained, turn_few bounded);
      }

-- both parts of each step

pub work_rest : (rows : List Binary) (w : Work) (c : ℕ) (todo : List ℕ) (k : ℕ) (row : Binary) (looks : ℕ) → IsWork rows w (c ∷ todo) → slice_get rows k ≡ Some row → marked w.marks k ≡ true → meets row (clause rows c) ≡ true → looks ≤ w.looks + 1 → IsWork rows (record w { resting = set w.resting k (get_or w.resting k [] ++ c ∷ []); looks = looks }) todo
work_rest rows w c todo k row looks work at here does few = record {
  sound = sound_rest rows w c todo k row looks work.sound at here does;
  bounded = bounded_rest rows w c todo k row looks work.sound at here does work.bounded few;
}

pub work_lose : (rows : List Binary) (w : Work) (c : ℕ) (todo : List ℕ) (looks : ℕ) → IsWork rows w (c ∷ todo) → marked w.marks (owner rows c) ≡ true → (IsMet rows (marked w.marks) (clause rows c) → ⊥) → looks ≤ w.looks + 1 → IsWork rows (record w { marks = set w.marks (owner rows c) false; waiting = w.waiting ++ owner rows c ∷ []; looks = looks }) todo
work_lose rows w c todo looks work here unmet few = record {
  sound = sound_lose rows w c todo looks work.sound here unmet;
  bounded = bounded_lose rows w c todo looks work.sound here unmet work.bounded few;
}

pub work_skip : (rows : List Binary) (w : Work) (c : ℕ) (todo : List ℕ) (looks : ℕ) → IsWork rows w (c ∷ todo) → marked w.marks (owner rows c) ≡ false → looks ≤ w.looks + 1 → IsWork rows (record w { looks = looks }) todo
work_skip rows w c todo looks work gone few = record { sound = sound_skip rows w c todo looks work.sound gone; bounded = bounded_skip rows w c todo looks work.bounded few }

pub work_turn : (rows : List Binary) (w : Work) (front : List ℕ) (k : ℕ) → IsWork rows w [] → w.waiting ≡ front ++ k ∷ [] → IsWork rows (record w { waiting = front; resting = set w.resting k []; turns = w.turns + 1 }) (get_or w.resting k [])
work_turn rows w front k work last = record {
  sound = sound_turn rows w front k work.sound last;
  bounded = bounded_turn rows w front k work.sound last work.bounded;
}

-- nothing waits, and nothing is to be looked at
pub sound_done : (rows : List Binary) (w : Work) → IsSound rows w [] → w.waiting ≡ [] → IsGreatestClosed rows (marked w.marks)
sound_done rows w sound none = record {
  closed = closed_from_claims rows (marked w.marks) (λ c h on.
      let r = sound.rests c h refl on in
      let is_marked : marked w.marks r.place ≡ true = elim r.here [ inl m ↦ m | inr waits ↦ absurd (omega (arith, waits, ap (count_of r.place) none)) ] in
      (r.place, r.row, r.stands, is_marked, r.does));
  greatest = sound.keeps;
}

-- a turn for each row that lost its mark
pub done_turns : (rows : List Binary) (w : Work) → IsWork rows w [] → w.waiting ≡ [] → w.turns ≡ count_by (λ b. not b) w.marks
done_turns rows w work none = omega (arith, work.bounded.balance, work.sound.marks_len, count_both w.marks, ap length none)

pub done_looks : (rows : List Binary) (w : Work) → IsWork rows w [] → w.looks ≤ length (clauses_of rows) + pair_count rows
done_looks rows w work = omega (arith, work.bounded.cost, length-claims_from 0 rows)

same_at : {X : Type 0} (n k : ℕ) (e : X) → get_or (replicate n e) k e ≡ e
same_at zero k e = refl
same_at (suc n) zero e = refl
same_at (suc n) (suc k) e = same_at n k e

full_count : (n : ℕ) → count_by (λ b. b) (replicate n true) ≡ n
full_count zero = refl
full_count (suc n) = omega (arith, full_count n, sum_by-cons (λ b. cond b (suc 0) 0) true (replicate n true))

nils_count : (c n : ℕ) → sum_by (λ xs. count_of c xs) (replicate n []) ≡ 0
nils_count c zero = refl
nils_count c (suc n) = omega (arith, nils_count c n, sum_by-cons (λ xs. count_of c xs) [] (replicate n []))

pub length_range : (a n : ℕ) → length (range_with_len a n) ≡ n
length_range a zero = refl
length_range a (suc n) = omega (arith, length_range (a + 1) n)

-- all rows are marked, and each claim is to be looked at
abbrev pub start : List Binary → Work
start rows = record { marks = replicate (length rows) true; resting = replicate (length rows) []; waiting = []; turns = 0; looks = 0 }

pub work_start : (rows : List Binary) → IsWork rows (start rows) (range_with_len 0 (claim_count rows))
work_start rows = record {
  sound = record {
    marks_len = length-replicate (length rows) true;
    resting_len = length-replicate (length rows) [];
    waiting_in = λ k h. absurd (omega arith);
    todo_in = λ c h. elim (cases_lt c (claim_count rows)) [ inl l ↦ l | inr g ↦ absurd (omega (arith, h, range_after c 0 (claim_count rows) (omega arith))) ];
    resting_in = λ k row c at h. absurd (omega (arith, h, ap (count_of c) (same_at (length rows) k [])));
    rests = λ c h none on. absurd (omega (arith, none, range_within c 0 (claim_count rows) (omega arith) (omega arith)));
    keeps = λ other closed k h on. get_or-replicate (length rows) k true false h;
  };
  bounded = record {
    once = λ c. omega (arith, nils_count c (length rows), range_at_most c 0 (claim_count rows));
    balance = omega (arith, full_count (length rows));
    cost = omega (arith, length_range 0 (claim_count rows), weight_full (gain rows) rows);
  };
}
