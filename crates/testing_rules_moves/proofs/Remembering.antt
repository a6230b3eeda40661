-- Candidates that were refused stay so until a row comes in that provides a name of their clause.
use Rattle.std.specs.Prelude.{ℕ, zero, suc, ◌+◌, ◌<◌, Bool, true, false, List, [], ◌∷◌, ◌++◌, Contains, Some, None, is_none, option_map, Result, Ok, Err, OnOk, replicate, length, take, get_or, slice_set}
use Rattle.std.specs.Borrow.{Bor}
use Rattle.std.specs.List.{slice_get, list_any, flat_map}
use Rattle.std.specs.Str.{bytes_eq}
use Rattle.std.proofs.Common.{◌≡◌, refl, sym, ap, ◌∙◌, subst, inl, inr}
use Rattle.std.proofs.lemmas.Bool.{cases_Bool, false≢true, or_cases}
use Rattle.std.proofs.lemmas.List.{take_more, map-append}
use Rattle.std.proofs.lemmas.List.Elements.{Contains-append_left, Contains-append_right, Contains-push_cases}
use Rattle.std.proofs.lemmas.Option.{same_Some, slice_get-map, slice_get_read}
use Rattle.std.proofs.lemmas.Slice.Eq.{bytes_eq-Decides}
use Rattle.deb_control.specs.declared.binary.Binary.{Binary}
use Rattle.deb_control.specs.declared.relation.Alternative.{Alternative}
use Rattle.deb_control.specs.declared.relation.Clause.{Clause}
use Rattle.deb_control.specs.declared.relation.Provision.{Provision}
use Rattle.testing_install.specs.Among.{with_all}
use Rattle.testing_install.specs.Closed.{marked}
use Rattle.testing_install.specs.Index.{PlacesByName, places_at, provides_name}
use Rattle.testing_install.specs.Dependents.{names, IsNotedAt}
use Rattle.testing_install.specs.steps.Dependents.{places_for}
use Rattle.testing_install.specs.Satisfies.{satisfies}
use Rattle.testing_install.proofs.Finding.{any_true, any_at, satisfies_provides}
use Rattle.testing_install.proofs.Marking.{with_stays, with_here, with_elsewhere, mark_within}
use Rattle.testing_install.proofs.Members.{contains_part}
use Rattle.testing_install.proofs.Needing.{found_more}
use Rattle.testing_rules_items.specs.Words.{Text}
use Rattle.testing_rules_items.proofs.Members.{none_among}
use Rattle.testing_rules_live.specs.declared.live_rows.LiveRows.{LiveRows}
use Rattle.testing_rules_live.specs.declared.live_rows.LiveRows.TheVariants.{Pooled, Listed}
use Rattle.testing_rules_live.specs.steps.Held.{IsChangeBy}
use Rattle.testing_rules_live.specs.steps.Lacks.{arriving}
use Rattle.testing_rules_model.specs.declared.excuse.Excuse.{Excuse}
use Rattle.testing_rules_model.specs.declared.facts.UploadIn.{UploadIn}
use Rattle.testing_rules_model.specs.declared.suite.RowIn.{RowIn}
use Rattle.testing_rules_model.specs.InOrder.{AreByKey}
use Rattle.testing_rules_model.proofs.Sets.{first_or_rest}
use Rattle.testing_rules_moves.specs.declared.refusals.Numbered.{Numbered}
use Rattle.testing_rules_moves.specs.declared.refusals.Refusals.{Refusals}
use Rattle.testing_rules_moves.specs.steps.LentItems.{lent_excuses}
use Rattle.testing_rules_moves.specs.steps.Refusals.{excuses_of, IsNumbered, AreNumbered, IsRefused, AreRefused, AreWoken, IsWithinRows, woken_by}
use Rattle.testing_rules_moves.specs.steps.Runs.{Moment, IsLacking, after_move, broken_by_move}
use Rattle.testing_rules_moves.proofs.Lacking.{after_by_key, lack_refused, lack_stays}
use Rattle.testing_rules_suites.specs.declared.change.Change.{Change}

-- Candidates with their numbers.

module _ (candidates : List (Bor Excuse)) (items : List Numbered) (n near : ℕ) (b : Bor Excuse) (below : n < length candidates) (is : b ≡ get_or candidates n b) where
  abbrev one_more : List Numbered
  one_more = items ++ record { number = n; excuse = b; near = near } ∷ []

  pub excuses_more : excuses_of items ≡ lent_excuses (take n candidates) → excuses_of one_more ≡ lent_excuses (take (n + 1) candidates)
  excuses_more before =
      map-append (λ (c : Numbered). c.excuse.now) items (record { number = n; excuse = b; near = near } ∷ [])
      ∙ ap (λ es. es ++ b.now ∷ []) before
      ∙ sym (map-append (λ (e : Bor Excuse). e.now) (take n candidates) (b ∷ []))
      ∙ ap lent_excuses (ap (λ x. take n candidates ++ x ∷ []) is ∙ sym (take_more candidates n b below))

  pub numbers_more : AreNumbered (lent_excuses candidates) items → AreNumbered (lent_excuses candidates) one_more
  numbers_more before = record {
    each = λ c d. elim (Contains-push_cases items (record { number = n; excuse = b; near = near }) c d) [
      | inl among ↦ before.each c among
      | inr own ↦ subst (IsNumbered (lent_excuses candidates)) own
          (slice_get-map (λ (e : Bor Excuse). e.now) candidates n ∙ ap (λ o. option_map (λ (e : Bor Excuse). e.now) o) (slice_get_read candidates (length candidates) n b refl below is))
    ];
  }

-- fewer of them, in any order
pub numbers_of_part : (excuses : List Excuse) (xs ys : List Numbered) → ((c : Numbered) → Contains ys c → Contains xs c) → AreNumbered excuses xs → AreNumbered excuses ys
numbers_of_part excuses xs ys part numbered = record { each = λ c d. numbered.each c (part c d) }

-- Flags that are cleared.

-- the places at each name that the package provides
in_places : (noted : PlacesByName) (b : Binary) (name : Text) (k : ℕ) → provides_name b name ≡ true → Contains (places_at noted name) k → Contains (places_for noted b) k
in_places noted b name k e c = elim (or_cases (bytes_eq b.name name) (list_any (λ p. bytes_eq p.name name) b.provides) e) [
  | inl own ↦ (
      let same : b.name ≡ name = (bytes_eq-Decides b.name name).0 own in
      Contains-append_left (places_at noted b.name) (flat_map (λ p. places_at noted p.name) b.provides) k (subst (λ q. Contains (places_at noted q) k) (sym same) c))
  | inr given ↦ (
      let d : Provision = record { name = []; version = None } in
      let f = any_at (λ p. bytes_eq p.name name) b.provides given in
      let same : (get_or b.provides f.0 d).name ≡ name = (bytes_eq-Decides (get_or b.provides f.0 d).name name).0 (f.2 d) in
      Contains-append_right (places_at noted b.name) (flat_map (λ p. places_at noted p.name) b.provides) k
      (contains_part (λ p. places_at noted p.name) b.provides f.0 d k f.1 (subst (λ q. Contains (places_at noted q) k) (sym same) c)))
]

-- a flag that is left was set, and stands at none of the places
left_set : (ks : List ℕ) (flags : List Bool) (k : ℕ) → marked (with_all false ks flags) k ≡ true → marked flags k ≡ true
left_set ks flags k on = elim (cases_Bool (marked flags k)) [
  | inl up ↦ up
  | inr off ↦ absurd (false≢true (sym (with_stays false ks flags k off) ∙ on))
]

left_out : (ks : List ℕ) (flags : List Bool) (k : ℕ) → marked (with_all false ks flags) k ≡ true → Contains ks k → ⊥
left_out ks flags k on c =
    false≢true (sym (with_here false ks flags k (mark_within flags k (left_set ks flags k on)) c) ∙ on)

-- the places of both lists
with_append : (b : Bool) (xs ys : List ℕ) (flags : List Bool) → with_all b (xs ++ ys) flags ≡ with_all b ys (with_all b xs flags)
with_append b [] ys flags = refl
with_append b (x ∷ xs) ys flags = with_append b xs ys (slice_set flags x b)

-- those at the name of one provision more
pub cleared_more : (noted : PlacesByName) (b : Binary) (flags old new : List Bool) (i : ℕ) (p : Provision) (name : Text) (read : List Provision) → read ≡ b.provides → i < length read → p ≡ get_or read i p → name ≡ p.name
    → new ≡ with_all false (places_at noted name) old → old ≡ with_all false (places_at noted b.name ++ flat_map (λ q. places_at noted q.name) (take i b.provides)) flags
    → new ≡ with_all false (places_at noted b.name ++ flat_map (λ q. places_at noted q.name) (take (i + 1) b.provides)) flags
cleared_more noted b flags old new i p name read are below at named cleared before =
    let ks = places_at noted b.name ++ flat_map (λ q. places_at noted q.name) (take i b.provides) in
    cleared ∙ ap (with_all false (places_at noted name)) before ∙ sym (with_append false ks (places_at noted name) flags)
    ∙ ap (λ js. with_all false js flags) (found_more noted b ks (ks ++ places_at noted name) i p name read are below at named refl refl)

-- nothing came in
pub woken_none : (refusals : Refusals) → AreWoken [] refusals refusals
woken_none refusals = record { noted = refl; kept = λ k on. on; woken = λ k r name c. none_among r c }

-- one row more
pub woken_more : (rows : List RowIn) (old mid new : Refusals) (row : RowIn) → AreWoken rows old mid → new.flags.items ≡ woken_by mid.noted row.binary mid.flags.items → new.noted ≡ mid.noted
    → AreWoken (rows ++ row ∷ []) old new
woken_more rows old mid new row before flags noted =
    let ks = places_for mid.noted row.binary in
    let left : (k : ℕ) → marked new.flags.items k ≡ true → marked (with_all false ks mid.flags.items) k ≡ true = λ k on. ap (λ fs. marked fs k) (sym flags) ∙ on in
    record {
      noted = noted ∙ before.noted;
      kept = λ k on. before.kept k (left_set ks mid.flags.items k (left k on));
      woken = λ k r name c b at on. elim (Contains-push_cases rows row r c) [
        | inl among ↦ before.woken k r name among b at (left_set ks mid.flags.items k (left k on))
        | inr own ↦ left_out ks mid.flags.items k (left k on)
            (in_places mid.noted row.binary name k (ap (λ (q : RowIn). provides_name q.binary name) own ∙ b) (subst (λ i. Contains (places_at i name) k) (sym before.noted) at))
      ];
    }

-- fewer rows
pub woken_of_part : (xs ys : List RowIn) (old new : Refusals) → ((r : RowIn) → Contains ys r → Contains xs r) → AreWoken xs old new → AreWoken ys old new
woken_of_part xs ys old new part woken = record { noted = woken.noted; kept = woken.kept; woken = λ k r name c. woken.woken k r name (part r c) }

no_mark : {P : Type 0} (k : ℕ) → marked [] k ≡ true → P
no_mark k on = absurd (false≢true on)

-- the places of a group's move are within the pool
pub within_rows : (rows : LiveRows) (sources : List UploadIn) (group : List Text) (change : Change) → IsChangeBy rows sources group change → IsWithinRows rows change
within_rows (Pooled s) sources group change is = is.within
within_rows (Listed rows) sources group change is = tt

-- where all is forgotten
pub woken_all : (rows : List RowIn) (old new : Refusals) → new.flags.items ≡ [] → new.noted ≡ old.noted → AreWoken rows old new
woken_all rows old new flags noted = record {
  noted = noted;
  kept = λ k on. no_mark k (ap (λ fs. marked fs k) (sym flags) ∙ on);
  woken = λ k r name c b at on. no_mark k (ap (λ fs. marked fs k) (sym flags) ∙ on);
}

-- What is remembered.

pub on_ok_weaker : {A E : Type 0} (P Q : Type 0) (r : Result A E) → (P → Q) → OnOk r P → OnOk r Q
on_ok_weaker P Q (Ok x) f h = f h
on_ok_weaker P Q (Err e) f h = h

pub replicate_off : (n k : ℕ) → marked (replicate n false) k ≡ false
replicate_off zero k = refl
replicate_off (suc n) zero = refl
replicate_off (suc n) (suc k) = replicate_off n k

module _ (m : Moment) (excuses : List Excuse) where
  pub refused_none : (refusals : Refusals) → AreByKey m.basis.rows → AreByKey m.suite.rows → ((k : ℕ) → marked refusals.flags.items k ≡ false) → AreRefused m excuses refusals
  refused_none refusals by_key in_order off = record { by_key = by_key; in_order = in_order; each = λ k e at on. absurd (false≢true (sym (off k) ∙ on)) }

  -- a candidate more
  pub refused_more : (old new : Refusals) (number : ℕ) (e : Excuse) (clause : Clause) → slice_get excuses number ≡ Some e → IsLacking (e.source ∷ []) m clause
      → new.flags.items ≡ slice_set old.flags.items number true → IsNotedAt (names clause) old.noted new.noted number → AreRefused m excuses old → AreRefused m excuses new
  refused_more old new number e clause at lacks set noted before =
      let own : IsRefused m new.noted number e.source = record { clause = clause; lacks = lacks; at_names = noted.noted } in
      record {
        by_key = before.by_key;
        in_order = before.in_order;
        each = λ k x here on. elim (with_elsewhere true true (number ∷ []) old.flags.items k (ap (λ fs. marked fs k) (sym set) ∙ on)) [
          | inl up ↦
              let r = before.each k x here up in
              record { clause = r.clause; lacks = r.lacks; at_names = λ name n. noted.stays name k (r.at_names name n) }
          | inr c ↦ elim (first_or_rest number [] k c) [
            | inl same ↦
                let alike : e ≡ x = same_Some e x (sym at ∙ ap (slice_get excuses) same ∙ here) in
                subst (λ (y : Excuse). IsRefused m new.noted k y.source) alike (subst (λ j. IsRefused m new.noted j e.source) same own)
            | inr none ↦ none_among k none
          ]
        ];
      }

  -- a candidate that is remembered may not move
  pub refused_known : (refusals : Refusals) (number : ℕ) (e : Excuse) → slice_get excuses number ≡ Some e → marked refusals.flags.items number ≡ true → AreRefused m excuses refusals
      → is_none (broken_by_move (e.source ∷ []) m) ≡ false
  refused_known refusals number e at on known =
      let r = known.each number e at on in
      lack_refused m.basis.sources m.basis.rows (e.source ∷ []) m.suite known.by_key known.in_order m.basis.archs r.clause r.lacks

  -- those that are left after a move are still refused
  pub refused_moved : (group : List Text) (old new : Refusals) → AreWoken (arriving m.basis.sources m.basis.rows group) old new → AreRefused m excuses old → AreRefused (after_move group m) excuses new
  refused_moved group old new woken before = record {
    by_key = before.by_key;
    in_order = after_by_key m.basis.sources m.basis.rows group m.suite before.by_key before.in_order;
    each = λ k x here on.
        let r = before.each k x here (woken.kept k on) in
        record {
          clause = r.clause;
          lacks = lack_stays m.basis.sources m.basis.rows group m.suite before.by_key before.in_order m.basis.archs (x.source ∷ []) r.clause r.lacks (λ q c does.
              let f = any_at (satisfies q.binary) r.clause does in
              let d : Alternative = record { name = []; relation = None } in
              let a = get_or r.clause f.0 d in
              let named : names r.clause a.name ≡ true = any_true (λ b. bytes_eq b.name a.name) r.clause f.0 d f.1 ((bytes_eq-Decides a.name a.name).1 refl) in
              woken.woken k q a.name c (satisfies_provides q.binary a (f.2 d)) (r.at_names a.name named) on);
          at_names = λ name n. subst (λ i. Contains (places_at i name) k) (sym woken.noted) (r.at_names name n);
        };
  }
