-- Rows that are shared, and more of them behind.
use Rattle.std.proofs.Common.{◌≡◌, ℕ, zero, suc, ◌+◌, ◌<◌, ◌≤◌, List, [], ◌∷◌, ◌++◌, length, get_or, Some, Global, sym, refl, ap, ◌∙◌, subst, arith}
use Rattle.std.specs.List.{slice_get, All, Contains}
use Rattle.std.specs.Option.{option_map}
use Rattle.std.specs.declared.rc.Rc.{Rc}
use Rattle.std.proofs.lemmas.Option.{slice_get-map, slice_get_read}
use Rattle.std.proofs.lemmas.List.{length-map, length-append}
use Rattle.deb_control.specs.declared.binary.Binary.{Binary}
use Rattle.testing_install.specs.Index.{PlacesByName, provides_name, places_at}
use Rattle.testing_install.specs.Dependents.{needs_name, IsNotedAt}
use Rattle.testing_install.specs.steps.Dependents.{IsGraph}
use Rattle.testing_install.specs.Rows.{shared}
use Rattle.testing_install.proofs.Indexing.{IsIndexTo, index_none, index_more, index_all}
use Rattle.testing_install.proofs.Needing.{IsDependentsTo, dependents_none, dependents_more, dependents_all}

-- what reading a row gives
pub shared_at : (rows : List (Rc Binary Global)) (k : ℕ) (row : Rc Binary Global) (binary : Binary) → k < length rows → row ≡ get_or rows k row → binary ≡ row.value → slice_get (shared rows) k ≡ Some binary
shared_at rows k row binary h e is =
    let value : Rc Binary Global → Binary = λ r. r.value in
    slice_get-map value rows k ∙ ap (option_map value) (slice_get_read rows (length rows) k row refl h e) ∙ ap (λ (b : Binary). Some b) (sym is)

pub length-shared : (rows : List (Rc Binary Global)) → length (shared rows) ≡ length rows
length-shared rows = length-map rows (λ (r : Rc Binary Global). r.value)

-- what stands at a place stands there also with more behind
pub slice_get_before : {X : Type 0} (xs ys : List X) (k : ℕ) → k < length xs → slice_get (xs ++ ys) k ≡ slice_get xs k
slice_get_before [] ys k h = absurd (omega (arith, h))
slice_get_before (x ∷ xs) ys zero h = refl
slice_get_before (x ∷ xs) ys (suc k) h = slice_get_before xs ys k (omega (arith, h))

-- after the first n rows
pub record IsGraphTo (rows : List Binary) (providers dependents : PlacesByName) (n : ℕ) : Type 0 where
  pub borne : IsIndexTo rows providers n
  pub needed : IsDependentsTo rows dependents n

-- with more rows behind, none of which is noted
pub graph_begun : (rows old more : List Binary) (providers dependents : PlacesByName) (first : ℕ) → rows ≡ old ++ more → length old ≡ first → IsGraph old providers dependents → IsGraphTo rows providers dependents first
graph_begun rows old more providers dependents first are long g =
    let size : length rows ≡ length old + length more = ap length are ∙ length-append old more in
    record {
      borne = record {
        within = λ q k d h. omega (arith, g.borne.within q k d h, size);
        complete = λ q k row h at e. g.borne.complete q k row (sym (slice_get_before old more k (omega (arith, h, long))) ∙ ap (λ xs. slice_get xs k) (sym are) ∙ at) e;
      };
      needed = record {
        within = λ q k d h. omega (arith, g.needed.within q k d h, size);
        complete = λ q k row h at e. g.needed.complete q k row (sym (slice_get_before old more k (omega (arith, h, long))) ∙ ap (λ xs. slice_get xs k) (sym are) ∙ at) e;
      };
    }

pub graph_more : (rows : List Binary) (b0 n0 b1 n1 : PlacesByName) (n : ℕ) (row : Binary) → slice_get rows n ≡ Some row → IsGraphTo rows b0 n0 n → IsNotedAt (provides_name row) b0 b1 n → IsNotedAt (needs_name row) n0 n1 n → IsGraphTo rows b1 n1 (n + 1)
graph_more rows b0 n0 b1 n1 n row at to noted needs = record {
  borne = index_more rows b0 b1 n row at to.borne noted;
  needed = dependents_more rows n0 n1 n row at to.needed needs;
}

pub graph_all : (rows : List Binary) (providers dependents : PlacesByName) (n : ℕ) → IsGraphTo rows providers dependents n → length rows ≤ n → IsGraph rows providers dependents
graph_all rows providers dependents n to h = record { borne = index_all rows providers n to.borne h; needed = dependents_all rows dependents n to.needed h }

-- a graph of no rows
pub graph_none : (providers dependents : PlacesByName) → ((q : List ℕ) → places_at providers q ≡ []) → ((q : List ℕ) → places_at dependents q ≡ []) → IsGraph [] providers dependents
graph_none providers dependents b n = graph_all [] providers dependents 0 (record { borne = index_none [] providers b; needed = dependents_none [] dependents n }) (omega arith)

-- a graph whose rows are provided at the same places
pub graph_same : (rows : List Binary) (old new dependents : PlacesByName) → ((q : List ℕ) → places_at new q ≡ places_at old q) → IsGraph rows old dependents → IsGraph rows new dependents
graph_same rows old new dependents same g = record {
  borne = record {
    within = λ q. subst (All (λ k. k < length rows)) (sym (same q)) (g.borne.within q);
    complete = λ q k row at e. subst (λ ks. Contains ks k) (sym (same q)) (g.borne.complete q k row at e);
  };
  needed = g.needed;
}
