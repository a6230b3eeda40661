-- Tables of runs with as many rows as there are runs.
use Rattle.std.proofs.Common.{◌≡◌, ◌≤◌, ◌<◌, ◌+◌, ⊎_elim, inr, ℕ, zero, suc, List, length, Bool, false, Option, Some, None, IsSome, is_some, refl, sym, ap, subst, ◌∙◌, arith}
use Rattle.std.specs.Prelude.{◌↔◌, IsTrue, IfSome}
use Rattle.std.proofs.lemmas.Bool.{cases_lt}
use Rattle.std.proofs.lemmas.Bool.Decides.{nat_tests}
use Rattle.std.proofs.lemmas.Cmp.{nat_cmp_total}
use Rattle.std.specs.Str.{IsUtf8}
use Rattle.std.specs.Ordering.{nat_cmp, eq_by_cmp}
use Rattle.std.specs.FinMap.{FinMap, get, len, remove, nat_cmp-IsAntisymmetric}
use Rattle.sqlite.specs.Order.{Row}
use Rattle.office_store_keeper.specs.declared.values.Reports.{Reports}
use Rattle.office_store_keeper.proofs.KeyCounts.{some_len, len_rest, rest_has}
use Rattle.office_store_testing_tables.specs.Tables.{IsWhole, run_in, run_map}
use Rattle.office_store_testing_tables.specs.Legible.{AreReported}
use Rattle.office_store_testing_tables.proofs.LetterFacts.{nat_is}
use Rattle.office_store_testing_tables.proofs.Passed.{no_none}
use Rattle.office_store_testing_tables.proofs.Whole.{at_most}
use Rattle.office_store_tables.proofs.ReportFacts.{other}
use Rattle.office_store_tables.specs.steps.Reading.{IsRecorded}

over : (a b : ℕ) → b < a → eq_by_cmp nat_cmp a b ≡ false
over a b h = nat_is a b ∙ grind (arith, nat_tests)

module _ {V : Type 0} where
  -- the map has each number from 1 to this one
  abbrev HasEach : FinMap nat_cmp V → ℕ → Type 0
  HasEach m n = (k : ℕ) → 1 ≤ k → k ≤ n → IsSome (get m k)

  has_rest : (m : FinMap nat_cmp V) (n k : ℕ) → HasEach m n → ((j : ℕ) → 1 ≤ j → j ≤ n → eq_by_cmp nat_cmp j k ≡ false) → HasEach (remove m k) n
  has_rest m n k each apart j low high = subst IsSome (sym (rest_has nat_cmp_total m k j (apart j low high))) (each j low high)

  -- so it has as many entries
  each_fits : (n : ℕ) (m : FinMap nat_cmp V) → HasEach m n → n ≤ len m
  each_fits zero m each = omega arith
  each_fits (suc n) m each =
      let there = each (suc n) (omega arith) (omega arith) in
      let one = some_len nat_cmp_total m (suc n) there in
      let less = len_rest nat_cmp_total m (suc n) there in
      let rest = each_fits n (remove m (suc n)) (has_rest m n (suc n) (λ k low high. each k low (omega (arith, high))) (λ k low high. other k (suc n) (omega (arith, high)))) in
      omega (arith, one, less, rest)

  stray : (n : ℕ) (m : FinMap nat_cmp V) (k : ℕ) → HasEach m n → len m ≤ n → IsSome (get m k) → ((j : ℕ) → 1 ≤ j → j ≤ n → eq_by_cmp nat_cmp j k ≡ false) → ⊥
  stray n m k each few there apart =
      let one = some_len nat_cmp_total m k there in
      let less = len_rest nat_cmp_total m k there in
      let rest = each_fits n (remove m k) (has_rest m n k each apart) in
      omega (arith, one, less, rest, few)

  -- and no other number, where it has no more entries
  each_only : (n : ℕ) (m : FinMap nat_cmp V) → HasEach m n → len m ≤ n → (k : ℕ) → IsSome (get m k) → (1 ≤ k) × (k ≤ n)
  each_only n m each few zero there = absurd (stray n m zero each few there (λ j low high. over j zero (omega (arith, low))))
  each_only n m each few (suc k) there = ⊎_elim
      (λ (beyond : n < suc k). absurd (stray n m (suc k) each few there (λ j low high. other j (suc k) (omega (arith, high, beyond)))))
      (λ (within : suc k ≤ n). (omega arith, within))
      (cases_lt n (suc k))

runs_few : (rows : List Row) → len (run_map rows) ≤ length rows
runs_few rows = at_most nat_cmp_total nat_cmp-IsAntisymmetric run_in rows

-- each row of such a table has an entry of its own
pub reported_whole : (rows : List Row) (finished : ℕ) → AreReported rows finished → IsWhole (run_map rows) rows
reported_whole rows finished reported =
    let low = each_fits finished (run_map rows) reported.each in
    let high = runs_few rows in
    let count = reported.count in
    omega (arith, low, high, count)

some_value : {X : Type 0} (x y : X) → Some x ≡ Some y → x ≡ y
some_value x y e = cc (e)

-- runs that have their reports, with as many rows, are reported
pub reported_from : (rows : List Row) (finished : ℕ) → length rows ≡ finished → ((run : ℕ) → 1 ≤ run → run ≤ finished → IsRecorded rows run) → AreReported rows finished
reported_from rows finished count recorded =
    let each : HasEach (run_map rows) finished = λ run low high. ap is_some (recorded run low high).stands in
    record {
      each = each;
      count = count;
      texts = λ run reports found.
          let few = runs_few rows in
          let within = each_only finished (run_map rows) each (omega (arith, few, count)) run (ap is_some found) in
          let it = recorded run within.0 within.1 in
          let same : it.reports ≡ reports = some_value it.reports reports (sym it.stands ∙ found) in
          (subst (λ (r : Reports). IsUtf8 r.excuses) same it.excuses, subst (λ (r : Reports). IsUtf8 r.updates) same it.updates);
    }

-- and the other way round
pub reported_each : (rows : List Row) (finished : ℕ) → AreReported rows finished → (run : ℕ) → 1 ≤ run → run ≤ finished → IsRecorded rows run
reported_each rows finished reported run low high = go (get (run_map rows) run) refl
  where
    go : (o : Option Reports) → get (run_map rows) run ≡ o → IsRecorded rows run
    go (Some reports) is = let texts = reported.texts run reports is in record { reports = reports; stands = is; excuses = texts.0; updates = texts.1 }
    go None is = absurd (no_none (inr is) (reported.each run low high))

-- whether the reports of a run are there
pub recorded_is : (rows : List Row) (run : ℕ) (o : Option Reports) → o ≡ get (run_map rows) run → IfSome o (λ (r : Reports). IsUtf8 r.excuses × IsUtf8 r.updates) → IsTrue (is_some o) ↔ IsRecorded rows run
recorded_is rows run (Some r) is texts = (λ _. record { reports = r; stands = sym is; excuses = texts.0; updates = texts.1 }, λ _. refl)
recorded_is rows run None is texts = (λ e. absurd (let x = e in cc), λ it. absurd (let x : None ≡ Some it.reports = is ∙ it.stands in cc))

-- one run more that has its reports
pub recorded_more : (rows : List Row) (n : ℕ) → ((run : ℕ) → 1 ≤ run → run ≤ n → IsRecorded rows run) → IsRecorded rows (n + 1) → (run : ℕ) → 1 ≤ run → run ≤ n + 1 → IsRecorded rows run
recorded_more rows n before last run low high = ⊎_elim
    (λ (less : run < n + 1). before run low (omega (arith, less)))
    (λ (more : n + 1 ≤ run). let e : n + 1 ≡ run = omega (arith, high, more) in subst (IsRecorded rows) e last)
    (cases_lt run (n + 1))
