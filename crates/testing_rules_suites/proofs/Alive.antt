-- What the suites tell of a change is what it breaks, and once it is made they show the rows after it.
use Rattle.std.specs.Prelude.{ℕ, zero, suc, ◌<◌, Bool, true, false, nat_lt, List, [], ◌∷◌, ◌++◌, length, replicate, Option}
use Rattle.std.specs.List.{slice_get, list_all}
use Rattle.std.proofs.Common.{◌≡◌, refl, sym, ◌∙◌, subst, arith}
use Rattle.std.proofs.lemmas.Bool.Decides.{nat_tests}
use Rattle.std.proofs.lemmas.Option.{slice_get_within}
use Rattle.testing_install.specs.Among.{after_change}
use Rattle.testing_install.specs.Closed.{marked}
use Rattle.testing_install.proofs.Marking.{marked_longer}
use Rattle.testing_rules_model.specs.declared.facts.UploadIn.{UploadIn}
use Rattle.testing_rules_model.specs.declared.suite.RowIn.{RowIn}
use Rattle.testing_rules_suites.specs.steps.Changes.{has, IsMoveOf}
use Rattle.testing_rules_model.specs.steps.FactOrder.{IsUnstableOrder}
use Rattle.testing_rules_model.specs.InOrder.{AreByKey}
use Rattle.testing_rules_model.specs.Moves.{first_failing, judged_on, move_group, remove_source}
use Rattle.testing_rules_suites.specs.Present.{IsShown, CarriedState}
use Rattle.testing_rules_suites.specs.steps.PresentSteps.{IsLive, PoolState, present_rows}
use Rattle.testing_rules_model.specs.Suite.{Suite}
use Rattle.testing_rules_suites.specs.steps.Tried.{Tells, IsWithin, IsRemovalOf}
use Rattle.testing_rules_model.specs.steps.SourceFilter.{hash_passes, passing_rows}
use Rattle.testing_rules_items.specs.Words.{Text}
use Rattle.testing_rules_suites.proofs.Arranging.{move_of_places}
use Rattle.testing_rules_suites.proofs.Flags.{flags_after, marked_within}
use Rattle.testing_rules_suites.proofs.Judging.{trial_tells}
use Rattle.testing_rules_suites.proofs.Lost.{IsChange, at_place, contains_at}
use Rattle.testing_rules_suites.proofs.Moving.{IsMove, after_flags, moved_change, removed_change}
use Rattle.testing_rules_suites.proofs.Showing.{is_present}
use Rattle.testing_rules_suites.proofs.Suites.{shown-alike}

-- the first failing rows, architecture by architecture
abbrev pub failing : List Text → List RowIn → List RowIn → ℕ → Option Text
failing group old new arch = first_failing arch group (judged_on arch old) (judged_on arch new)

module _ (s : PoolState) (archs : List Text) (sources : List UploadIn) (unstable : List RowIn) (group : List Text) (leaving coming : List ℕ) (t : Suite)
    (order : IsUnstableOrder sources unstable) (live : IsLive s archs unstable t.rows) (moves : IsMoveOf s.rows s.stands s.first sources group leaving coming)
    (offered : list_all (hash_passes s.candidates) group ≡ true) where
  is_move : IsMove s.rows (marked s.stands) sources unstable group (has leaving) (has coming)
  is_move =
      let pool = live.before ++ passing_rows s.candidates unstable in
      let here : IsMoveOf pool s.stands s.first sources group leaving coming = subst (λ rows. IsMoveOf rows s.stands s.first sources group leaving coming) live.pooled moves in
      let there : IsMoveOf pool s.stands (length live.before) sources group leaving coming =
      subst (λ n. IsMoveOf pool s.stands n sources group leaving coming) live.begins here in
      subst (λ rows. IsMove rows (marked s.stands) sources unstable group (has leaving) (has coming)) (sym live.pooled)
      (move_of_places live.before unstable s.candidates s.stands sources group leaving coming there offered)

  change : IsChange s.rows group (marked s.stands) (after_flags (marked s.stands) (has leaving) (has coming)) (has coming) t.rows (move_group sources unstable group t).rows
  change = moved_change s.rows (marked s.stands) sources unstable group (has leaving) (has coming) t order.by_key live.shown is_move

  pub move_told : IsWithin s.rows leaving coming → ((k : ℕ) → has coming k ≡ true → marked s.stands k ≡ false)
      → Tells s.rows s.stands leaving coming (failing group t.rows (move_group sources unstable group t).rows)
  move_told within fresh = record {
    each = λ arch there long on name told.
        trial_tells arch s.rows group s.stands there leaving coming t.rows (move_group sources unstable group t).rows long within.coming_within fresh change on name told;
  }

  pub move_live : (new : PoolState) → length s.stands ≡ length s.rows → new ≡ record { rows = s.rows; candidates = s.candidates; first = s.first; stands = after_change leaving coming s.stands; archs = s.archs }
      → IsLive new archs unstable (move_group sources unstable group t).rows
  move_live new long e = subst (λ n. IsLive n archs unstable (move_group sources unstable group t).rows) (sym e) (record {
    count = live.count;
    before = live.before;
    pooled = live.pooled;
    begins = live.begins;
    shown = shown-alike s.rows (after_flags (marked s.stands) (has leaving) (has coming)) (marked (after_change leaving coming s.stands)) (move_group sources unstable group t).rows change.new_shown
        (λ k h. flags_after leaving coming s.stands k (omega (arith, h, long)));
  })

  -- what stands then are the rows after the move
  pub move_stands : (new : PoolState) → length s.stands ≡ length s.rows → new ≡ record { rows = s.rows; candidates = s.candidates; first = s.first; stands = after_change leaving coming s.stands; archs = s.archs }
      → (move_group sources unstable group t).rows ≡ present_rows new
  move_stands new long e = is_present new (move_group sources unstable group t).rows (move_live new long e).shown

module _ (s : PoolState) (name : Text) (leaving : List ℕ) (t : Suite) (shown : IsShown s.rows (marked s.stands) t.rows) (removal : IsRemovalOf s.rows s.stands name leaving) where
  change_by_removal : IsChange s.rows [] (marked s.stands) (after_flags (marked s.stands) (has leaving) (has [])) (has []) t.rows (remove_source name t).rows
  change_by_removal = removed_change s.rows (marked s.stands) name (has leaving) t shown removal.exact

  pub removal_told : IsWithin s.rows leaving [] → Tells s.rows s.stands leaving [] (failing [] t.rows (remove_source name t).rows)
  removal_told within = record {
    each = λ arch there long on name' told.
        trial_tells arch s.rows [] s.stands there leaving [] t.rows (remove_source name t).rows long within.coming_within (λ k h. none h) change_by_removal on name' told;
  }
    where
      none : {P : Type 0} → false ≡ true → P
      none h = let never : ⊥ = cc in absurd never

  pub removal_live : (archs : List Text) (unstable : List RowIn) (new : PoolState) → IsLive s archs unstable t.rows → length s.stands ≡ length s.rows
      → new ≡ record { rows = s.rows; candidates = s.candidates; first = s.first; stands = after_change leaving [] s.stands; archs = s.archs }
      → IsLive new archs unstable (remove_source name t).rows
  removal_live archs unstable new live long e = subst (λ n. IsLive n archs unstable (remove_source name t).rows) (sym e) (record {
    count = live.count;
    before = live.before;
    pooled = live.pooled;
    begins = live.begins;
    shown = shown-alike s.rows (after_flags (marked s.stands) (has leaving) (has [])) (marked (after_change leaving [] s.stands)) (remove_source name t).rows change_by_removal.new_shown
        (λ k h. flags_after leaving [] s.stands k (omega (arith, h, long)));
  })

  -- what stands then are the rows after the removal
  pub removal_stands : (archs : List Text) (unstable : List RowIn) (new : PoolState) → IsLive s archs unstable t.rows → length s.stands ≡ length s.rows
      → new ≡ record { rows = s.rows; candidates = s.candidates; first = s.first; stands = after_change leaving [] s.stands; archs = s.archs }
      → (remove_source name t).rows ≡ present_rows new
  removal_stands archs unstable new live long e = is_present new (remove_source name t).rows (removal_live archs unstable new live long e).shown

-- Before a run testing's rows stand, and unstable's behind them don't.

nat_lt_below : (a b : ℕ) → nat_lt a b ≡ true → a < b
nat_lt_below a b h = grind (arith, nat_tests)

nat_lt_true : (a b : ℕ) → a < b → nat_lt a b ≡ true
nat_lt_true a b h = grind (arith, nat_tests)

front : {A : Type 0} (xs ys : List A) (k : ℕ) → k < length xs → slice_get (xs ++ ys) k ≡ slice_get xs k
front [] ys k h = absurd (omega (arith, h))
front (x ∷ xs) ys zero h = refl
front (x ∷ xs) ys (suc k) h = front xs ys k (omega (arith, h))

pub shown_before : (before unstable : List RowIn) → AreByKey before → IsShown (before ++ unstable) (λ k. nat_lt k (length before)) before
shown_before before unstable by_key = record {
  by_key = by_key;
  within = λ r c.
      let at = at_place before r c in
      let below = slice_get_within before c.0 r at in
      (c.0, front before unstable c.0 below ∙ at, nat_lt_true c.0 (length before) below);
  all = λ k r at h. contains_at before k r (sym (front before unstable k (nat_lt_below k (length before) h)) ∙ at);
}

-- rows behind those of a pool, none of which stands, show no more
pub shown_longer : (pool more : List RowIn) (stands : List Bool) (rows : List RowIn) → length stands ≡ length pool → IsShown pool (marked stands) rows
    → IsShown (pool ++ more) (marked (stands ++ replicate (length more) false)) rows
shown_longer pool more stands rows long shown = record {
  by_key = shown.by_key;
  within = λ r c.
      let w = shown.within r c in
      (w.0, front pool more w.0 (slice_get_within pool w.0 r w.1) ∙ w.1, marked_longer stands (length more) w.0 ∙ w.2);
  all = λ k r at h.
      let up : marked stands k ≡ true = sym (marked_longer stands (length more) k) ∙ h in
      shown.all k r (sym (front pool more k (omega (arith, marked_within stands k up, long))) ∙ at) up;
}

pub live_before : (s : PoolState) (archs : List Text) (kept : CarriedState) (unstable rows : List RowIn) → IsShown kept.rows (marked kept.stands) rows → length kept.stands ≡ length kept.rows
    → s.rows ≡ kept.rows ++ passing_rows s.candidates unstable → s.first ≡ length kept.rows → s.archs ≡ length archs
    → s.stands ≡ kept.stands ++ replicate (length (passing_rows s.candidates unstable)) false → IsLive s archs unstable rows
live_before s archs kept unstable rows shown long pooled first count stands =
    let more = passing_rows s.candidates unstable in
    let flags = kept.stands ++ replicate (length more) false in
    let before : IsShown (kept.rows ++ more) (marked flags) rows = shown_longer kept.rows more kept.stands rows long shown in
    record {
      count = count;
      before = kept.rows;
      pooled = pooled;
      begins = first;
      shown = subst (λ pool. IsShown pool (marked s.stands) rows) (sym pooled) (subst (λ fs. IsShown (kept.rows ++ more) (marked fs) rows) (sym stands) before);
    }
