-- A candidate that is tried, and the circle of all: the next one that may move, where some are known to be refused.
use Rattle.std.specs.Prelude.{ℕ, ◌+◌, ◌<◌, ◌≤◌, Bool, true, false, List, [], ◌∷◌, ◌++◌, Contains, Result, Ok, Err, IfOk, length, take, drop, get_or, map}
use Rattle.std.specs.List.{position_or_len}
use Rattle.std.proofs.Common.{◌≡◌, refl, sym, ap, ◌∙◌, subst, arith, inl, inr}
use Rattle.std.proofs.lemmas.Bool.{false≢true}
use Rattle.std.proofs.lemmas.List.{length-map, get_or-map, take-map, drop-map, map-append, take-append-drop}
use Rattle.std.proofs.lemmas.List.Elements.{Contains-append_left, Contains-append_right, Contains-append_cases}
use Rattle.testing_rules_live.specs.steps.Lacks.{arriving}
use Rattle.testing_rules_model.specs.declared.excuse.Excuse.{Excuse}
use Rattle.testing_rules_moves.specs.declared.refusals.Numbered.{Numbered}
use Rattle.testing_rules_moves.specs.declared.refusals.Refusals.{Refusals}
use Rattle.testing_rules_moves.specs.steps.Refusals.{excuses_of, IsNumbered, AreNumbered, AreRefused, AreWoken, IsTried, IsNext}
use Rattle.testing_rules_moves.specs.steps.Runs.{Run, go_on, moment_of}
use Rattle.testing_rules_moves.proofs.Circle.{search-on, search-found, search-over}
use Rattle.testing_rules_moves.proofs.Remembering.{numbers_of_part, refused_moved}
use Rattle.testing_rules_moves.proofs.Runs.{allowed_in, alone_in, circle_in, run_circle-next, run_circle-over}

-- One candidate.

-- what holds after a call that says yes or no
pub by_answer : {E : Type 0} (P : Bool → Type 0) (r : Result Bool E) → (r ≡ Ok true → P true) → (r ≡ Ok false → P false) → IfOk r P
by_answer P (Ok true) h k = h refl
by_answer P (Ok false) h k = k refl
by_answer P (Err e) h k = tt

-- where nothing has changed, the same are refused
pub known_still : (old new : Run) (excuses : List Excuse) (before after : Refusals) → new ≡ old → after ≡ before → AreRefused (moment_of old) excuses before → AreRefused (moment_of new) excuses after
known_still old new excuses before after stays asleep known =
    subst (λ (r : Run). AreRefused (moment_of r) excuses after) (sym stays) (subst (AreRefused (moment_of old) excuses) (sym asleep) known)

module _ (old new : Run) (excuses : List Excuse) (e : Excuse) (refusals : Refusals) where
  -- it has moved
  pub tried_moved : (before : Refusals) → AreRefused (moment_of old) excuses before → allowed_in old e ≡ true → new ≡ go_on old (alone_in e)
      → AreWoken (arriving old.basis.sources old.basis.rows (e.source ∷ [])) before refusals → IsTried old new excuses e refusals true
  tried_moved before known may moves woken = record {
    allowed = may;
    after = λ h. moves;
    same = λ h. absurd (false≢true (sym h));
    known = subst (λ (r : Run). AreRefused (moment_of r) excuses refusals) (sym moves) (refused_moved (moment_of old) excuses (e.source ∷ []) before refusals woken known);
  }

  -- it may not move, and nothing has changed
  pub tried_stayed : AreRefused (moment_of new) excuses refusals → allowed_in old e ≡ false → new ≡ old → IsTried old new excuses e refusals false
  tried_stayed known may_not stays = record {
    allowed = may_not;
    after = λ h. absurd (false≢true h);
    same = λ h. stays;
    known = known;
  }

-- The circle.

-- the excuse of a candidate of the circle
excuse-at : (items : List Numbered) (i : ℕ) (c : Numbered) → i < length items → c ≡ get_or items i c → get_or (excuses_of items) i c.excuse.now ≡ c.excuse.now
excuse-at items i c below is = get_or-map (λ (x : Numbered). x.excuse.now) items i c c.excuse.now below ∙ ap (λ (x : Numbered). x.excuse.now) (sym is)

-- the circle behind one of its candidates
excuses-behind : (items : List Numbered) (i : ℕ) → excuses_of (drop (i + 1) items ++ take i items) ≡ drop (i + 1) (excuses_of items) ++ take i (excuses_of items)
excuses-behind items i =
    map-append (λ (c : Numbered). c.excuse.now) (drop (i + 1) items) (take i items)
    ∙ ap (λ es. es ++ map (λ (c : Numbered). c.excuse.now) (take i items)) (sym (drop-map (λ (c : Numbered). c.excuse.now) (i + 1) items))
    ∙ ap (λ es. drop (i + 1) (excuses_of items) ++ es) (sym (take-map (λ (c : Numbered). c.excuse.now) i items))

-- has no other candidates
part_behind : (items : List Numbered) (i : ℕ) (c : Numbered) → Contains (drop (i + 1) items ++ take i items) c → Contains items c
part_behind items i c d = elim (Contains-append_cases (drop (i + 1) items) (take i items) c d) [
  | inl later ↦ subst (λ xs. Contains xs c) (take-append-drop (i + 1) items) (Contains-append_right (take (i + 1) items) (drop (i + 1) items) c later)
  | inr before ↦ subst (λ xs. Contains xs c) (take-append-drop i items) (Contains-append_left (take i items) (drop i items) c before)
]

-- none of the first candidates may move, and nothing has changed
pub record IsSearching (old new : Run) (excuses es : List Excuse) (refusals : Refusals) (i : ℕ) : Type 0 where
  pub same : new ≡ old
  pub known : AreRefused (moment_of old) excuses refusals
  pub refused : i + position_or_len (allowed_in old) (drop i es) ≡ position_or_len (allowed_in old) es

pub begin : (r : Run) (excuses es : List Excuse) (refusals : Refusals) → AreRefused (moment_of r) excuses refusals → IsSearching r r excuses es refusals 0
begin r excuses es refusals known = record { same = refl; known = known; refused = omega arith }

module _ (old mid : Run) (excuses : List Excuse) (items : List Numbered) (before : Refusals) (i : ℕ) (numbered : AreNumbered excuses items) (s : IsSearching old mid excuses (excuses_of items) before i) where
  abbrev es : List Excuse
  es = excuses_of items

  -- none of all may move
  pub found_none : length items ≤ i → IsNext old mid excuses items items before false
  found_none past = record {
    left = run_circle-over es old (search-over (allowed_in old) es i s.refused (omega (arith, past, length-map items (λ (x : Numbered). x.excuse.now)))) ∙ sym s.same;
    numbered = numbered;
    known = subst (λ (r : Run). AreRefused (moment_of r) excuses before) (sym s.same) s.known;
  }

  module _ (c : Numbered) (below : i < length items) (is : c ≡ get_or items i c) (new : Run) (refusals : Refusals) where
    within : i < length es
    within = omega (arith, below, length-map items (λ (x : Numbered). x.excuse.now))

    own : get_or es i c.excuse.now ≡ c.excuse.now
    own = excuse-at items i c below is

    pub own_number : IsNumbered excuses c
    own_number = numbered.each c (i, below, sym is)

    tested : (b : Bool) → IsTried mid new excuses c.excuse.now refusals b → allowed_in old (get_or es i c.excuse.now) ≡ b
    tested b t = ap (allowed_in old) own ∙ ap (λ (q : Run). allowed_in q c.excuse.now) (sym s.same) ∙ t.allowed

    -- the next one may not move
    pub found_later : IsTried mid new excuses c.excuse.now refusals false → IsSearching old new excuses es refusals (i + 1)
    found_later t = record {
      same = t.same refl ∙ s.same;
      known = subst (λ (r : Run). AreRefused (moment_of r) excuses refusals) (t.same refl ∙ s.same) t.known;
      refused = search-on (allowed_in old) es i c.excuse.now s.refused within (tested false t);
    }

    -- it has moved
    pub found_here : IsTried mid new excuses c.excuse.now refusals true → (rest : List Numbered) → rest ≡ drop (i + 1) items ++ take i items → IsNext old new excuses items rest refusals true
    found_here t rest is_rest =
        let e = c.excuse.now in
        let after : go_on old (alone_in (get_or es i e)) ≡ new = ap (λ x. go_on old (alone_in x)) own ∙ ap (λ (q : Run). go_on q (alone_in e)) (sym s.same) ∙ sym (t.after refl) in
        let behind : excuses_of rest ≡ drop (i + 1) es ++ take i es = ap excuses_of is_rest ∙ excuses-behind items i in
        record {
          left = run_circle-next es i e within old (search-found (allowed_in old) es i e s.refused within (tested true t))
              ∙ ap (λ (q : Run). go_on q (circle_in (drop (i + 1) es ++ take i es))) after
              ∙ ap (λ xs. go_on new (circle_in xs)) (sym behind);
          numbered = numbers_of_part excuses items rest (λ x d. part_behind items i x (subst (λ xs. Contains xs x) is_rest d)) numbered;
          known = t.known;
        }
