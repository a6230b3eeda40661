-- The steps of a search that settles: each look and each turn keeps what makes the marks right.
use Rattle.std.proofs.Common.{◌≡◌, ℕ, ◌+◌, ◌<◌, ◌≤◌, Bool, true, false, List, [], ◌∷◌, ◌++◌, length, get_or, set, drop, Option, Some, sym, ap, ◌∙◌, subst, inl, inr, arith}
use Rattle.std.specs.List.{slice_get, All, Contains, count_by}
use Rattle.std.proofs.lemmas.Option.{same_Some}
use Rattle.std.proofs.lemmas.Bool.{cases_eq, false≢true}
use Rattle.std.proofs.lemmas.List.{length-set, length-append, get_or-set_same, get_or-set_other, drop_more, drop_all, append-nil}
use Rattle.std.proofs.lemmas.List.Elements.{Contains-append_left, Contains-push, Contains-push_cases}
use Rattle.deb_control.specs.declared.binary.Binary.{Binary}
use Rattle.deb_control.specs.declared.relation.Clause.{Clause}
use Rattle.testing_install.specs.Satisfies.{meets}
use Rattle.testing_install.specs.Closed.{IsMet, marked}
use Rattle.testing_install.specs.steps.Among.{IsGreatestAmong, may_need}
use Rattle.testing_install.specs.steps.Settling.{suspects, IsHeld, IsSized, IsSettling}
use Rattle.testing_install.proofs.Members.{contains_cons, contains_none}
use Rattle.testing_install.proofs.Sweeping.{keeps_taken, fewer_taken}
use Rattle.testing_install.proofs.Working.{still_marked, same_row}
use Rattle.testing_install.proofs.Finding.{any_true}

-- a mark that was taken is gone
gone_at : (marks : List Bool) (o k : ℕ) → o < length marks → k ≡ o → marked (set marks o false) k ≡ false
gone_at marks o k h e = ap (λ q. get_or (set marks o false) q false) e ∙ get_or-set_same marks o false false h

still_gone : (marks : List Bool) (o k : ℕ) → o < length marks → marked marks k ≡ false → marked (set marks o false) k ≡ false
still_gone marks o k h off = elim (cases_eq k o) [
  | inl e ↦ gone_at marks o k h e
  | inr n ↦ get_or-set_other marks o k false false n ∙ off
]

module _ (rows : List Binary) (there : ℕ → Bool) (first marks : List Bool) (waiting fallen : List ℕ) (o : ℕ) (todo : List ℕ) (lost : Option Binary) (s : IsSettling rows there first marks waiting fallen (o ∷ todo) lost) where
  -- the next row has no mark
  pub settling_skip : marked marks o ≡ false → IsSettling rows there first marks waiting fallen todo lost
  settling_skip off = record {
    inside = s.inside;
    keeps = s.keeps;
    held = λ k row i d at on l. elim (s.held k row i d at on l) [
      | inl t ↦ elim (contains_cons o k todo t.0) [
        | inl same ↦ absurd (false≢true (sym off ∙ ap (λ q. marked marks q) (sym same) ∙ on))
        | inr later ↦ inl (later, t.1)
      ]
      | inr r ↦ inr r
    ];
    fewer = s.fewer;
    fell = s.fell;
    all = s.all;
  }

  -- each suspect clause of the next row is met
  pub settling_upheld : (row : Binary) → slice_get rows o ≡ Some row → All (λ clause. suspects lost clause ≡ true → IsMet rows (marked marks) clause) row.clauses → IsSettling rows there first marks waiting fallen todo lost
  settling_upheld row at up = record {
    inside = s.inside;
    keeps = s.keeps;
    held = λ k own i d stands on l. elim (s.held k own i d stands on l) [
      | inl t ↦ elim (contains_cons o k todo t.0) [
        | inl same ↦ (
            let alike : row ≡ own = same_row rows k o own row (same) stands at in
            let each : All (λ clause. suspects lost clause ≡ true → IsMet rows (marked marks) clause) own.clauses = subst (λ (r : Binary). All (λ clause. suspects lost clause ≡ true → IsMet rows (marked marks) clause) r.clauses) alike up in
            let m = each i d l t.1 in
            inr (record { place = m.0; row = m.1; stands = m.2; here = inl m.3; does = m.4 }))
        | inr later ↦ inl (later, t.1)
      ]
      | inr r ↦ inr r
    ];
    fewer = s.fewer;
    fell = s.fell;
    all = s.all;
  }

  held_after : o < length marks → (clause : Clause) → IsHeld rows marks waiting clause → IsHeld rows (set marks o false) (waiting ++ o ∷ []) clause
  held_after h clause r = record {
    place = r.place;
    row = r.row;
    stands = r.stands;
    here = elim r.here [
      | inl m ↦ elim (cases_eq r.place o) [
        | inl e ↦ inr (subst (λ p. Contains (waiting ++ o ∷ []) p) (sym e) (Contains-push waiting o))
        | inr n ↦ inl (get_or-set_other marks o r.place false false n ∙ m)
      ]
      | inr w ↦ inr (Contains-append_left waiting (o ∷ []) r.place w)
    ];
    does = r.does;
  }

  -- some clause of the next row isn't met, so the row loses its mark
  pub settling_fall : (row : Binary) → slice_get rows o ≡ Some row → o < length marks → marked marks o ≡ true → (All (IsMet rows (marked marks)) row.clauses → ⊥) → IsSettling rows there first (set marks o false) (waiting ++ o ∷ []) (fallen ++ o ∷ []) todo lost
  settling_fall row at h here unmet = record {
    inside = λ k on. s.inside k (still_marked marks o k h on).1;
    keeps = λ other c i. keeps_taken rows marks other o row at c (s.keeps other c i) unmet;
    held = λ k own i d stands on l.
        let was = still_marked marks o k h on in
        elim (s.held k own i d stands was.1 l) [
          | inl t ↦ elim (contains_cons o k todo t.0) [
            | inl same ↦ absurd (was.0 same)
            | inr later ↦ inl (later, t.1)
          ]
          | inr r ↦ inr (held_after h (get_or own.clauses i d) r)
        ];
    fewer = λ k on. s.fewer k (still_marked marks o k h on).1;
    fell = λ k c. elim (Contains-push_cases fallen o k c) [
      | inl before ↦ (let f = s.fell k before in (f.0, still_gone marks o k h f.1))
      | inr same ↦ (ap (λ q. marked first q) (sym same) ∙ s.fewer o here, gone_at marks o k h (sym same))
    ];
    all = λ k was off. elim (cases_eq k o) [
      | inl e ↦ subst (λ p. Contains (fallen ++ o ∷ []) p) (sym e) (Contains-push fallen o)
      | inr n ↦ Contains-append_left fallen (o ∷ []) k (s.all k was (sym (get_or-set_other marks o k false false n) ∙ off))
    ];
  }

-- a row's turn: the rows that may need it are to be looked at
pub settling_turn : (rows : List Binary) (there : ℕ → Bool) (first marks : List Bool) (waiting front fallen places : List ℕ) (k : ℕ) (row : Binary) (lost : Option Binary) → IsSettling rows there first marks waiting fallen [] lost → waiting ≡ front ++ k ∷ [] → slice_get rows k ≡ Some row → ((o : ℕ) (dependent : Binary) → slice_get rows o ≡ Some dependent → may_need dependent row ≡ true → Contains places o) → IsSettling rows there first marks front fallen places (Some row)
settling_turn rows there first marks waiting front fallen places k row lost s last at complete = record {
  inside = s.inside;
  keeps = s.keeps;
  held = λ o dependent i d stands on l. elim (s.held o dependent i d stands on l) [
    | inl t ↦ absurd (contains_none o t.0)
    | inr r ↦ elim r.here [
      | inl m ↦ inr (record { place = r.place; row = r.row; stands = r.stands; here = inl m; does = r.does })
      | inr w ↦ elim (Contains-push_cases front k r.place (subst (λ xs. Contains xs r.place) last w)) [
        | inl f ↦ inr (record { place = r.place; row = r.row; stands = r.stands; here = inr f; does = r.does })
        | inr e ↦ (
            let alike : row ≡ r.row = same_Some row r.row (sym at ∙ ap (λ q. slice_get rows q) e ∙ r.stands) in
            let does : meets row (get_or dependent.clauses i d) ≡ true = ap (λ x. meets x (get_or dependent.clauses i d)) alike ∙ r.does in
            inl (complete o dependent stands (any_true (λ clause. meets row clause) dependent.clauses i d l does), does))
      ]
    ]
  ];
  fewer = s.fewer;
  fell = s.fell;
  all = s.all;
}

-- where nothing is to be looked at, no lost row matters
pub settling_calm : (rows : List Binary) (there : ℕ → Bool) (first marks : List Bool) (waiting fallen : List ℕ) (lost other : Option Binary) → IsSettling rows there first marks waiting fallen [] lost → IsSettling rows there first marks waiting fallen [] other
settling_calm rows there first marks waiting fallen lost other s = record {
  inside = s.inside;
  keeps = s.keeps;
  held = λ o dependent i d stands on l. elim (s.held o dependent i d stands on l) [
    | inl t ↦ absurd (contains_none o t.0)
    | inr r ↦ inr r
  ];
  fewer = s.fewer;
  fell = s.fell;
  all = s.all;
}

-- where nothing waits either, the marked rows are the greatest closed set of those that are there
pub settling_done : (rows : List Binary) (there : ℕ → Bool) (first marks : List Bool) (waiting fallen : List ℕ) (lost : Option Binary) → IsSettling rows there first marks waiting fallen [] lost → waiting ≡ [] → IsGreatestAmong rows there (marked marks)
settling_done rows there first marks waiting fallen lost s none = record {
  inside = s.inside;
  closed = λ k row at on i d l. elim (s.held k row i d at on l) [
    | inl t ↦ absurd (contains_none k t.0)
    | inr r ↦ elim r.here [
      | inl m ↦ (r.place, r.row, r.stands, m, r.does)
      | inr w ↦ absurd (contains_none r.place (subst (λ xs. Contains xs r.place) none w))
    ]
  ];
  greatest = s.keeps;
}

-- sizes

pub sized_fall : (rows : List Binary) (marks : List Bool) (waiting : List ℕ) (o : ℕ) → IsSized rows marks waiting → o < length rows → IsSized rows (set marks o false) (waiting ++ o ∷ [])
sized_fall rows marks waiting o s h = record {
  long = length-set marks o false ∙ s.long;
  waiting_in = λ k c. elim (Contains-push_cases waiting o k c) [
    | inl before ↦ s.waiting_in k before
    | inr same ↦ omega (arith, h, same)
  ];
}

pub sized_turn : (rows : List Binary) (marks : List Bool) (waiting front : List ℕ) (k : ℕ) → IsSized rows marks waiting → waiting ≡ front ++ k ∷ [] → IsSized rows marks front
sized_turn rows marks waiting front k s last = record {
  long = s.long;
  waiting_in = λ p c. s.waiting_in p (subst (λ xs. Contains xs p) (sym last) (Contains-append_left front (k ∷ []) p c));
}

pub turn_in : (rows : List Binary) (marks : List Bool) (waiting front : List ℕ) (k : ℕ) → IsSized rows marks waiting → waiting ≡ front ++ k ∷ [] → k < length rows
turn_in rows marks waiting front k s last = s.waiting_in k (subst (λ xs. Contains xs k) (sym last) (Contains-push front k))

-- a fall moves a row from the marked ones to those that wait
pub measure_fall : (marks : List Bool) (waiting : List ℕ) (o : ℕ) → o < length marks → marked marks o ≡ true → length (waiting ++ o ∷ []) + count_by (λ b. b) (set marks o false) ≡ length waiting + count_by (λ b. b) marks
measure_fall marks waiting o h on = omega (arith, fewer_taken marks o h on, length-append waiting (o ∷ []))

-- the next of several places with more behind them, and the end of them
pub settling_next : (rows : List Binary) (there : ℕ → Bool) (first marks : List Bool) (waiting fallen places : List ℕ) (i : ℕ) (lost : Option Binary) (more : List ℕ) → i < length places → IsSettling rows there first marks waiting fallen (drop i places ++ more) lost → IsSettling rows there first marks waiting fallen (get_or places i 0 ∷ (drop (i + 1) places ++ more)) lost
settling_next rows there first marks waiting fallen places i lost more h s = subst (λ todo. IsSettling rows there first marks waiting fallen (todo ++ more) lost) (drop_more places i 0 h) s

pub settling_last : (rows : List Binary) (there : ℕ → Bool) (first marks : List Bool) (waiting fallen places : List ℕ) (i : ℕ) (lost : Option Binary) (more : List ℕ) → length places ≤ i → IsSettling rows there first marks waiting fallen (drop i places ++ more) lost → IsSettling rows there first marks waiting fallen more lost
settling_last rows there first marks waiting fallen places i lost more h s = subst (λ todo. IsSettling rows there first marks waiting fallen (todo ++ more) lost) (drop_all i places h) s

-- none behind them
pub settling_whole : (rows : List Binary) (there : ℕ → Bool) (first marks : List Bool) (waiting fallen places : List ℕ) (lost : Option Binary) → IsSettling rows there first marks waiting fallen places lost → IsSettling rows there first marks waiting fallen (places ++ []) lost
settling_whole rows there first marks waiting fallen places lost s = subst (λ todo. IsSettling rows there first marks waiting fallen todo lost) (sym (append-nil places)) s
