-- The indexes of a pool's rows, by their places.
use Rattle.std.proofs.Common.{◌≡◌, ℕ, ◌+◌, List, [], ◌∷◌, ◌++◌, length, Some, sym, ap, ◌∙◌, subst, inl, inr, arith}
use Rattle.std.specs.Str.{bytes_eq}
use Rattle.std.specs.List.{slice_get, Contains}
use Rattle.std.proofs.lemmas.Option.{slice_get_within, slice_get_read, same_Some}
use Rattle.std.proofs.lemmas.Bool.{cases_lt}
use Rattle.std.proofs.lemmas.List.{length-append, length-map, map-append, get_or_at}
use Rattle.std.proofs.lemmas.Slice.Eq.{bytes_eq-Decides}
use Rattle.deb_control.specs.declared.binary.Binary.{Binary}
use Rattle.testing_install.specs.Index.{provides_name, PlacesByName, places_at}
use Rattle.testing_install.specs.steps.Index.{IsIndex}
use Rattle.testing_install.specs.Dependents.{IsNotedAt}
use Rattle.testing_install.proofs.Sharing.{slice_get_before}
use Rattle.testing_rules_model.specs.declared.suite.RowIn.{RowIn}
use Rattle.testing_rules_items.specs.Words.{Text}
use Rattle.testing_rules_suites.specs.steps.Pools.{IsTextIndex, IsPool, sources_of, packages_of}

-- one text more, whose place is noted
module _ (texts : List Text) (text : Text) (old new : PlacesByName) (n : ℕ) (long : n ≡ length texts) (to : IsTextIndex texts old) (noted : IsNotedAt (λ q. bytes_eq q text) old new n) where
  size : length (texts ++ text ∷ []) ≡ n + 1
  size = omega (arith, length-append texts (text ∷ []), long)

  last : slice_get (texts ++ text ∷ []) n ≡ Some text
  last = slice_get_read (texts ++ text ∷ []) (n + 1) n text (sym size) (omega arith) (sym (get_or_at texts text [] text n (sym long)))

  index_behind : IsTextIndex (texts ++ text ∷ []) new
  index_behind = record {
    within = λ q. noted.within q (length (texts ++ text ∷ [])) (omega (arith, size)) (λ k d h. omega (arith, to.within q k d h, size, long));
    complete = λ k q at. elim (cases_lt k n) [
      | inl l ↦ noted.stays q k (to.complete k q (sym (slice_get_before texts (text ∷ []) k (omega (arith, l, long))) ∙ at))
      | inr g ↦ (
          let same : k ≡ n = omega (arith, g, slice_get_within (texts ++ text ∷ []) k q at, size) in
          let alike : text ≡ q = same_Some text q (sym last ∙ ap (slice_get (texts ++ text ∷ [])) (sym same) ∙ at) in
          subst (Contains (places_at new q)) (sym same) (noted.noted q ((bytes_eq-Decides q text).1 (sym alike))))
    ];
  }

-- one package more, whose place is noted at the names that it provides
module _ (rows : List Binary) (row : Binary) (old new : PlacesByName) (n : ℕ) (long : n ≡ length rows) (to : IsIndex rows old) (noted : IsNotedAt (provides_name row) old new n) where
  count : length (rows ++ row ∷ []) ≡ n + 1
  count = omega (arith, length-append rows (row ∷ []), long)

  names_behind : IsIndex (rows ++ row ∷ []) new
  names_behind = record {
    within = λ q. noted.within q (length (rows ++ row ∷ [])) (omega (arith, count)) (λ k d h. omega (arith, to.within q k d h, count, long));
    complete = λ q k other at e. elim (cases_lt k n) [
      | inl l ↦ noted.stays q k (to.complete q k other (sym (slice_get_before rows (row ∷ []) k (omega (arith, l, long))) ∙ at) e)
      | inr g ↦ (
          let same : k ≡ n = omega (arith, g, slice_get_within (rows ++ row ∷ []) k other at, count) in
          let here : slice_get (rows ++ row ∷ []) n ≡ Some row = slice_get_read (rows ++ row ∷ []) (n + 1) n row (sym count) (omega arith) (sym (get_or_at rows row [] row n (sym long))) in
          let alike : other ≡ row = same_Some other row (sym at ∙ ap (slice_get (rows ++ row ∷ [])) same ∙ here) in
          subst (Contains (places_at new q)) (sym same) (noted.noted q (sym (ap (λ r. provides_name r q) alike) ∙ e)))
    ];
  }

-- one row more
pub pool_behind : (rows : List RowIn) (row : RowIn) (s0 n0 s1 n1 : PlacesByName) (place : ℕ) → place ≡ length rows → IsPool rows s0 n0
    → IsNotedAt (λ q. bytes_eq q row.binary.source) s0 s1 place → IsNotedAt (provides_name row.binary) n0 n1 place → IsPool (rows ++ row ∷ []) s1 n1
pool_behind rows row s0 n0 s1 n1 place e p sourced named =
    let source : RowIn → Text = λ r. r.binary.source in
    let binary_of : RowIn → Binary = λ r. r.binary in
    record {
      sources = subst (λ ts. IsTextIndex ts s1) (sym (map-append source rows (row ∷ []))) (index_behind (sources_of rows) row.binary.source s0 s1 place (e ∙ sym (length-map rows source)) p.sources sourced);
      names = subst (λ bs. IsIndex bs n1) (sym (map-append binary_of rows (row ∷ []))) (names_behind (packages_of rows) row.binary n0 n1 place (e ∙ sym (length-map rows binary_of)) p.names named);
    }
