-- A change tried on one architecture: which rows stand there after it, and the name of the first that it loses.
use Rattle.std.specs.Prelude.{ℕ, ◌<◌, ◌↔◌, Bool, true, false, ◌&&◌, ◌||◌, not, List, Contains, Some, map, filter, length}
use Rattle.std.specs.List.{slice_get, filter_map}
use Rattle.std.proofs.Common.{◌≡◌, refl, ap₂, ◌∙◌}
use Rattle.std.proofs.lemmas.Option.{slice_get_within}
use Rattle.testing_rules_model.specs.declared.suite.RowIn.{RowIn}
use Rattle.testing_rules_model.specs.Moves.{is_watched_on, first_failing, judged_on}
use Rattle.testing_rules_model.specs.steps.Moves.{is_row_on}
use Rattle.testing_rules_items.specs.Words.{Text, byte_cmp, least}
use Rattle.testing_rules_model.proofs.Least.{from_filter, to_filter}
use Rattle.testing_rules_suites.specs.steps.PresentSteps.{IsOn}
use Rattle.testing_rules_suites.proofs.Lost.{IsLostAt, IsChange, AreLost, first_lost}
use Rattle.testing_rules_suites.proofs.Moving.{after_flags}
use Rattle.testing_rules_model.proofs.Sets.{given_by, gives, maps, mapped_from}

spread : (come stand on leave : Bool) → ((come && on) || ((stand && on) && not leave)) ≡ ((come || (stand && not leave)) && on)
spread true stand true leave = refl
spread true true false leave = refl
spread true false false leave = refl
spread false true true true = refl
spread false true true false = refl
spread false true false leave = at_false leave
  where
    at_false : (b : Bool) → false ≡ (not b && false)
    at_false true = refl
    at_false false = refl
spread false false true leave = refl
spread false false false leave = refl

module _ (arch : ℕ) (pool : List RowIn) (stands there after leaving coming coming_there : ℕ → Bool) (o : IsOn arch pool stands there)
    (only : (k : ℕ) (r : RowIn) → slice_get pool k ≡ Some r → coming_there k ≡ (coming k && is_row_on arch r))
    (is : (k : ℕ) → k < length pool → after k ≡ (coming_there k || (there k && not (leaving k)))) where
  -- where the rows of the architecture come and those that leave go, it has those that stand after the change
  pub on_after : IsOn arch pool (after_flags stands leaving coming) after
  on_after = record {
    on = λ k r at.
        is k (slice_get_within pool k r at)
        ∙ ap₂ (λ c t. c || (t && not (leaving k))) (only k r at) (o.on k r at)
        ∙ spread (coming k) (stands k) (is_row_on arch r) (leaving k);
  }

-- the names of the watched rows at some places
abbrev pub watched_names : ℕ → List RowIn → List ℕ → List Text
watched_names arch pool places = map (λ r. r.binary.name) (filter (is_watched_on arch) (filter_map (slice_get pool) places))

module _ (arch : ℕ) (pool : List RowIn) (before after came : ℕ → Bool) (places : List ℕ)
    (exact : (k : ℕ) → Contains places k ↔ IsLostAt (map (λ r. r.binary) pool) before after came k) where
  -- the places of the lost rows give their names
  pub names_lost : AreLost arch pool before after came (watched_names arch pool places)
  names_lost = record {
    within = λ n c.
        let rows = filter_map (slice_get pool) places in
        let m = mapped_from (λ (r : RowIn). r.binary.name) (filter (is_watched_on arch) rows) n c in
        let f = from_filter (is_watched_on arch) rows m.0 m.1 in
        let g = given_by (slice_get pool) places m.0 f.0 in
        (g.0, m.0, g.2, m.2, f.1, (exact g.0).0 g.1);
    all = λ k r at watched lost.
        let rows = filter_map (slice_get pool) places in
        let member = gives (slice_get pool) places k r ((exact k).1 lost) at in
        maps (λ (r : RowIn). r.binary.name) (filter (is_watched_on arch) rows) r (to_filter (is_watched_on arch) rows r member watched);
  }

-- the first of these names is that of the first row that fails
pub first_of_lost : (arch : ℕ) (pool : List RowIn) (group : List Text) (stood stands came before after : ℕ → Bool) (old new : List RowIn) (places : List ℕ)
    → IsChange pool group stood stands came old new → IsOn arch pool stood before → IsOn arch pool stands after
    → ((k : ℕ) → Contains places k ↔ IsLostAt (map (λ r. r.binary) pool) before after came k)
    → least byte_cmp (watched_names arch pool places) ≡ first_failing arch group (judged_on arch old) (judged_on arch new)
first_of_lost arch pool group stood stands came before after old new places change was is exact =
    first_lost arch pool group stood stands came before after old new change was is (watched_names arch pool places) (names_lost arch pool before after came places exact)
