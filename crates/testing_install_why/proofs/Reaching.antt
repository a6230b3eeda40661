-- The rows that clauses reach from one row.
use Rattle.std.proofs.Common.{◌≡◌, ℕ, zero, suc, ◌+◌, ◌<◌, ◌≤◌, Bool, true, false, ◌⊎◌, List, [], ◌∷◌, ◌++◌, length, get_or, set, Some, refl, sym, ap, ◌∙◌, subst, inl, inr, arith}
use Rattle.std.specs.List.{slice_get, All, AllWithin, Contains}
use Rattle.std.proofs.lemmas.Bool.{cases_eq, cases_lt, false≢true}
use Rattle.std.proofs.lemmas.Option.{same_Some, slice_get_within, slice_get-get_or, get_or_from_slice_get}
use Rattle.std.proofs.lemmas.List.{length-set, length-append, get_or-set_same, get_or-set_other}
use Rattle.std.proofs.lemmas.List.Elements.{Contains-push}
use Rattle.deb_control.specs.declared.binary.Binary.{Binary}
use Rattle.deb_control.specs.declared.relation.Clause.{Clause}
use Rattle.testing_install.specs.Among.{IsInstallableAmong}
use Rattle.testing_install.specs.Closed.{marked}
use Rattle.testing_install.specs.Satisfies.{meets}
use Rattle.testing_install.proofs.Indexing.{all_push}
use Rattle.testing_install.proofs.Places.{read_more}
use Rattle.testing_install.proofs.Sweeping.{fewer_taken}
use Rattle.testing_install_why.specs.steps.Order.{IsReaching}
use Rattle.testing_install_why.specs.steps.Reaching.{IsUnreached, IsGrown, IsShutAt, IsShutFor}
use Rattle.testing_install_why.proofs.Taking.{all_at, at_left, two_ways}

-- rows are reached one after the other

pub grown_none : (old : List Bool) (before : List ℕ) → IsGrown old old before before
grown_none old before = record {
  long = refl;
  shut = λ k off. off;
  moved = λ k off. inl off;
  stays = λ j k at. at;
  within = λ all. all;
  count = refl;
}

pub still_in : (before after : List ℕ) → ((j k : ℕ) → slice_get before j ≡ Some k → slice_get after j ≡ Some k) → (k : ℕ) → Contains before k → Contains after k
still_in before after stays k c =
    let at = stays c.0 k (slice_get-get_or before c.0 k c.1 ∙ ap Some c.2) in
    (c.0, slice_get_within after c.0 k at, get_or_from_slice_get after c.0 k k at)

pub grown_then : (old mid new : List Bool) (before between after : List ℕ) → IsGrown old mid before between → IsGrown mid new between after → IsGrown old new before after
grown_then old mid new before between after g h = record {
  long = h.long ∙ g.long;
  shut = λ k off. h.shut k (g.shut k off);
  moved = λ k off. elim (h.moved k off) [
    | inr now ↦ inr now
    | inl was ↦ elim (g.moved k was) [
      | inl first ↦ inl first
      | inr then ↦ inr (still_in between after h.stays k then)
    ]
  ];
  stays = λ j k at. h.stays j k (g.stays j k at);
  within = λ all. subst (λ n. All (λ k. k < n) after) g.long (h.within (subst (λ n. All (λ k. k < n) between) (sym g.long) (g.within all)));
  count = h.count ∙ g.count;
}

pub grown_one : (old : List Bool) (before : List ℕ) (place : ℕ) → place < length old → marked old place ≡ true → IsGrown old (set old place false) before (before ++ place ∷ [])
grown_one old before place h on = record {
  long = length-set old place false;
  shut = λ k off. elim (cases_eq k place) [
    | inl e ↦ ap (marked (set old place false)) e ∙ get_or-set_same old place false false h
    | inr n ↦ get_or-set_other old place k false false n ∙ off
  ];
  moved = λ k off. elim (cases_eq k place) [
    | inl e ↦ inr (subst (λ q. Contains (before ++ place ∷ []) q) (sym e) (Contains-push before place))
    | inr n ↦ inl (sym (get_or-set_other old place k false false n) ∙ off)
  ];
  stays = λ j k at. at_left before (place ∷ []) j k at;
  within = λ all. all_push before place (length old) h all;
  count = omega (arith, length-append before (place ∷ []), fewer_taken old place h on);
}

-- the rows at some places

pub record IsReachedTo (rows : List Binary) (clause : Clause) (places : List ℕ) (old new : List Bool) (before after : List ℕ) (n : ℕ) : Type 0 where
  pub grown : IsGrown old new before after
  pub shut : AllWithin (IsShutAt rows clause new) places 0 n

pub reached_none : (rows : List Binary) (clause : Clause) (places : List ℕ) (old : List Bool) (before : List ℕ) → IsReachedTo rows clause places old old before before 0
reached_none rows clause places old before = record { grown = grown_none old before; shut = λ i d low high. absurd (omega (arith, high)) }

shut_on : (rows : List Binary) (clause : Clause) (old new : List Bool) (place : ℕ) → ((k : ℕ) → marked old k ≡ false → marked new k ≡ false) → IsShutAt rows clause old place → IsShutAt rows clause new place
shut_on rows clause old new place shut s = record { each = λ row at does. shut place (s.each row at does) }

pub reached_more : (rows : List Binary) (clause : Clause) (places : List ℕ) (old mid : List Bool) (before between : List ℕ) (n place : ℕ) → IsReachedTo rows clause places old mid before between n → n < length places → place ≡ get_or places n place → place < length mid → marked mid place ≡ true → IsReachedTo rows clause places old (set mid place false) before (between ++ place ∷ []) (n + 1)
reached_more rows clause places old mid before between n place r h at within on =
    let one = grown_one mid between place within on in
    record {
      grown = grown_then old mid (set mid place false) before between (between ++ place ∷ []) r.grown one;
      shut = read_more (IsShutAt rows clause (set mid place false)) places places n place refl h at
          (λ i d low high. shut_on rows clause mid (set mid place false) (get_or places i d) one.shut (r.shut i d low high))
          (record { each = λ row stands does. get_or-set_same mid place false false within });
    }

pub reached_stays : (rows : List Binary) (clause : Clause) (places : List ℕ) (old mid : List Bool) (before between : List ℕ) (n place : ℕ) → IsReachedTo rows clause places old mid before between n → n < length places → place ≡ get_or places n place → IsShutAt rows clause mid place → IsReachedTo rows clause places old mid before between (n + 1)
reached_stays rows clause places old mid before between n place r h at here = record {
  grown = r.grown;
  shut = read_more (IsShutAt rows clause mid) places places n place refl h at r.shut here;
}

pub shut_off : (rows : List Binary) (clause : Clause) (unreached : List Bool) (place : ℕ) → marked unreached place ≡ false → IsShutAt rows clause unreached place
shut_off rows clause unreached place off = record { each = λ row at does. off }

pub shut_misses : (rows : List Binary) (clause : Clause) (unreached : List Bool) (place : ℕ) (row : Binary) → slice_get rows place ≡ Some row → meets row clause ≡ false → IsShutAt rows clause unreached place
shut_misses rows clause unreached place row at misses = record { each = λ other stands does. absurd (false≢true (sym misses ∙ ap (λ (b : Binary). meets b clause) (same_Some row other (sym at ∙ stands)) ∙ does)) }

-- all rows that meet a clause are among the places
pub shut_for : (rows : List Binary) (clause : Clause) (unreached : List Bool) (places : List ℕ) → All (IsShutAt rows clause unreached) places → ((k : ℕ) (row : Binary) → slice_get rows k ≡ Some row → meets row clause ≡ true → Contains places k) → IsShutFor rows unreached clause
shut_for rows clause unreached places all complete = record {
  each = λ k row at does.
      let c = complete k row at does in
      (subst (IsShutAt rows clause unreached) c.2 (all c.0 k c.1)).each row at does;
}

-- the clauses of a row, one after the other

pub record AreReachedTo (rows : List Binary) (clauses : List Clause) (old new : List Bool) (before after : List ℕ) (n : ℕ) : Type 0 where
  pub grown : IsGrown old new before after
  pub shut : AllWithin (IsShutFor rows new) clauses 0 n

pub clauses_none : (rows : List Binary) (clauses : List Clause) (old : List Bool) (before : List ℕ) → AreReachedTo rows clauses old old before before 0
clauses_none rows clauses old before = record { grown = grown_none old before; shut = λ i d low high. absurd (omega (arith, high)) }

shut_for_on : (rows : List Binary) (old new : List Bool) (clause : Clause) → ((k : ℕ) → marked old k ≡ false → marked new k ≡ false) → IsShutFor rows old clause → IsShutFor rows new clause
shut_for_on rows old new clause shut s = record { each = λ k row at does. shut k (s.each k row at does) }

pub clauses_more : (rows : List Binary) (clauses items : List Clause) (old mid new : List Bool) (before between after : List ℕ) (n : ℕ) (clause : Clause) → AreReachedTo rows clauses old mid before between n → items ≡ clauses → n < length items → clause ≡ get_or items n clause → IsGrown mid new between after → IsShutFor rows new clause → AreReachedTo rows clauses old new before after (n + 1)
clauses_more rows clauses items old mid new before between after n clause r are h at g here = record {
  grown = grown_then old mid new before between after r.grown g;
  shut = read_more (IsShutFor rows new) clauses items n clause are h at (λ i d low high. shut_for_on rows mid new (get_or clauses i d) g.shut (r.shut i d low high)) here;
}

-- the rows whose turn comes, one after the other

pub record IsTurn (rows : List Binary) (there : ℕ → Bool) (unreached : List Bool) (reached : List ℕ) (place next : ℕ) : Type 0 where
  pub long : length unreached ≡ length rows
  pub rest : (k : ℕ) → k < length rows → there k ≡ true → (marked unreached k ≡ true) ⊎ (Contains reached k ⊎ IsInstallableAmong rows there k)
  pub within : All (λ k. k < length rows) reached
  pub first : slice_get reached 0 ≡ Some place
  pub done : (j k : ℕ) (row : Binary) → j < next → slice_get reached j ≡ Some k → slice_get rows k ≡ Some row → All (IsShutFor rows unreached) row.clauses
  pub short : next ≤ length reached

pub turn_begun : (rows : List Binary) (there : ℕ → Bool) (unreached : List Bool) (place : ℕ) → IsUnreached rows there unreached (length rows) → place < length rows → IsTurn rows there (set unreached place false) (place ∷ []) place 0
turn_begun rows there unreached place u h = record {
  long = length-set unreached place false ∙ u.long;
  rest = λ k l on. elim (cases_eq k place) [
    | inl e ↦ inr (inl (subst (λ q. Contains (place ∷ []) q) (sym e) (0, omega arith, refl)))
    | inr n ↦ elim (u.rest k l on) [
      | inl still ↦ inl (get_or-set_other unreached place k false false n ∙ still)
      | inr is ↦ inr (inr is)
    ]
  ];
  within = all_push [] place (length rows) h (λ i d l. absurd (omega (arith, l)));
  first = refl;
  done = λ j k row l. absurd (omega (arith, l));
  short = omega arith;
}

stays_place : (before after : List ℕ) (j k : ℕ) → ((i m : ℕ) → slice_get before i ≡ Some m → slice_get after i ≡ Some m) → j < length before → slice_get after j ≡ Some k → slice_get before j ≡ Some k
stays_place before after j k stays h at =
    let now = slice_get-get_or before j 0 h in
    now ∙ sym (stays j (get_or before j 0) now) ∙ at

pub turn_more : (rows : List Binary) (there : ℕ → Bool) (old new : List Bool) (before after : List ℕ) (place next k : ℕ) (row : Binary) → IsTurn rows there old before place next → IsGrown old new before after → slice_get before next ≡ Some k → slice_get rows k ≡ Some row → All (IsShutFor rows new) row.clauses → IsTurn rows there new after place (next + 1)
turn_more rows there old new before after place next k row t g at stands shut = record {
  long = g.long ∙ t.long;
  rest = λ q l on. elim (two_ways (marked new q)) [
    | inl still ↦ inl still
    | inr off ↦ elim (g.moved q off) [
      | inr now ↦ inr (inl now)
      | inl was ↦ elim (t.rest q l on) [
        | inl un ↦ absurd (false≢true (sym was ∙ un))
        | inr (inl c) ↦ inr (inl (still_in before after g.stays q c))
        | inr (inr is) ↦ inr (inr is)
      ]
    ]
  ];
  within = subst (λ n. All (λ q. q < n) after) t.long (g.within (subst (λ n. All (λ q. q < n) before) (sym t.long) t.within));
  first = g.stays 0 place t.first;
  done = λ j q other l at_j at_q. elim (cases_lt j next) [
    | inl less ↦ (
        let was = t.done j q other less (stays_place before after j q g.stays (omega (arith, less, t.short)) at_j) at_q in
        λ i d h. shut_for_on rows old new (get_or other.clauses i d) g.shut (was i d h))
    | inr not ↦ (
        let same : j ≡ next = omega (arith, l, not) in
        let one : k ≡ q = same_Some k q (sym (g.stays next k at) ∙ ap (slice_get after) (sym same) ∙ at_j) in
        let alike : row ≡ other = same_Some row other (sym stands ∙ ap (slice_get rows) one ∙ at_q) in
        subst (λ (b : Binary). All (IsShutFor rows new) b.clauses) alike shut)
  ];
  short = omega (arith, slice_get_within after next k (g.stays next k at));
}

pub turn_all : (rows : List Binary) (there : ℕ → Bool) (unreached : List Bool) (reached : List ℕ) (place next : ℕ) → IsTurn rows there unreached reached place next → length reached ≤ next → IsReaching rows there reached
turn_all rows there unreached reached place next t h = record {
  each = λ k row i clause b other c stands needs at on does.
      let shut = all_at (IsShutFor rows unreached) row.clauses i clause needs (t.done c.0 k row (omega (arith, c.1, h)) (slice_get-get_or reached c.0 k c.1 ∙ ap Some c.2) stands) in
      elim (t.rest b (slice_get_within rows b other at) on) [
        | inl un ↦ absurd (false≢true (sym (shut.each b other at does) ∙ un))
        | inr (inl in_reach) ↦ inl in_reach
        | inr (inr is) ↦ inr is
      ];
}

pub turn_first : (rows : List Binary) (there : ℕ → Bool) (unreached : List Bool) (reached : List ℕ) (place next : ℕ) → IsTurn rows there unreached reached place next → Contains reached place
turn_first rows there unreached reached place next t = (0, slice_get_within reached 0 place t.first, get_or_from_slice_get reached 0 place place t.first)

-- which rows may be reached at first

marked_left : (xs ys : List Bool) (k : ℕ) → marked xs k ≡ true → marked (xs ++ ys) k ≡ true
marked_left [] ys k on = absurd (false≢true on)
marked_left (x ∷ xs) ys zero on = on
marked_left (x ∷ xs) ys (suc k) on = marked_left xs ys k on

marked_end : (xs : List Bool) (y : Bool) → marked (xs ++ y ∷ []) (length xs) ≡ y
marked_end [] y = refl
marked_end (x ∷ xs) y = marked_end xs y

pub unreached_none : (rows : List Binary) (there : ℕ → Bool) (unreached : List Bool) → unreached ≡ [] → IsUnreached rows there unreached 0
unreached_none rows there unreached e = record { long = ap length e; rest = λ k l. absurd (omega (arith, l)) }

pub unreached_more : (rows : List Binary) (there : ℕ → Bool) (old : List Bool) (n : ℕ) (mark : Bool) → IsUnreached rows there old n → (there n ≡ true → (mark ≡ true) ⊎ IsInstallableAmong rows there n) → IsUnreached rows there (old ++ mark ∷ []) (n + 1)
unreached_more rows there old n mark u here = record {
  long = omega (arith, length-append old (mark ∷ []), u.long);
  rest = λ k l on. elim (cases_lt k n) [
    | inl less ↦ elim (u.rest k less on) [
      | inl still ↦ inl (marked_left old (mark ∷ []) k still)
      | inr is ↦ inr is
    ]
    | inr not ↦ (
        let same : k ≡ n = omega (arith, l, not) in
        elim (here (sym (ap there same) ∙ on)) [
          | inl fresh ↦ inl (ap (marked (old ++ mark ∷ [])) (same ∙ sym u.long) ∙ marked_end old mark ∙ fresh)
          | inr is ↦ inr (subst (IsInstallableAmong rows there) (sym same) is)
        ])
  ];
}
