-- The reports of finished runs, as a list.
use Rattle.std.proofs.Common.{◌≡◌, ◌<◌, ◌≤◌, ◌+◌, ℕ, zero, suc, List, [], ◌∷◌, ◌++◌, length, slice_get, Bool, true, false, cond, nat_eq, Some, None, unwrap_or, refl, sym, ap, subst, ◌∙◌, arith}
use Rattle.std.proofs.lemmas.Bool.Decides.{nat_tests}
use Rattle.std.proofs.lemmas.List.{length-append}
use Rattle.std.proofs.lemmas.Option.{slice_get_past}
use Rattle.std.proofs.lemmas.Cmp.{nat_cmp_total}
use Rattle.std.specs.Ordering.{nat_cmp, eq_by_cmp}
use Rattle.std.specs.FinMap.{FinMap, get, insert, get-insert}
use Rattle.office_store_keeper.specs.declared.values.Reports.{Reports}
use Rattle.office_store_keeper.specs.Content.{item_from_one}
use Rattle.office_store_testing_tables.specs.TableContent.{no_reports, reports_to}
use Rattle.office_store_testing_tables.proofs.LetterFacts.{nat_is}

front : {X : Type 0} (xs ys : List X) (i : ℕ) → i < length xs → slice_get (xs ++ ys) i ≡ slice_get xs i
front [] ys i h = absurd (omega (arith, h))
front (x ∷ xs) ys zero h = refl
front (x ∷ xs) ys (suc i) h = front xs ys i (omega (arith, h))

seam : {X : Type 0} (xs : List X) (y : X) → slice_get (xs ++ y ∷ []) (length xs) ≡ Some y
seam [] y = refl
seam (x ∷ xs) y = seam xs y

module _ (map : FinMap nat_cmp Reports) where
  -- the reports that stand for a run
  abbrev pub report_at : ℕ → Reports
  report_at run = unwrap_or (get map run) no_reports

  pub reports_suc : (n : ℕ) → reports_to map (n + 1) ≡ reports_to map n ++ report_at (n + 1) ∷ []
  unfolding reports_to
  reports_suc n = let e : n + 1 ≡ suc n = omega arith in subst (λ k. reports_to map k ≡ reports_to map n ++ report_at k ∷ []) (sym e) refl

  pub length_reports : (n : ℕ) → length (reports_to map n) ≡ n
  unfolding reports_to
  length_reports zero = refl
  length_reports (suc n) = omega (arith, length-append (reports_to map n) (report_at (suc n) ∷ []), length_reports n)

  at_place : (n k : ℕ) → k < n → slice_get (reports_to map n) k ≡ Some (report_at (suc k))
  unfolding reports_to
  at_place zero k h = absurd (omega (arith, h))
  at_place (suc n) k h = go (nat_eq k n) refl (at_place n k)
    where
      go : (b : Bool) → nat_eq k n ≡ b → (k < n → slice_get (reports_to map n) k ≡ Some (report_at (suc k))) → slice_get (reports_to map n ++ report_at (suc n) ∷ []) k ≡ Some (report_at (suc k))
      go true is before =
          let same : k ≡ n = grind (arith, nat_tests) in
          subst (λ j. slice_get (reports_to map n ++ report_at (suc n) ∷ []) j ≡ Some (report_at (suc j))) (sym same)
          (ap (slice_get (reports_to map n ++ report_at (suc n) ∷ [])) (sym (length_reports n)) ∙ seam (reports_to map n) (report_at (suc n)))
      go false is before =
          let less : k < n = grind (arith, nat_tests) in
          let fits : k < length (reports_to map n) = omega (arith, less, length_reports n) in
          front (reports_to map n) (report_at (suc n) ∷ []) k fits ∙ before less

  pub item_is : (run n : ℕ) → 1 ≤ run → run ≤ n → item_from_one run (reports_to map n) ≡ Some (report_at run)
  item_is zero n above within = absurd (omega (arith, above))
  item_is (suc k) n above within = at_place n k (omega (arith, within))

  pub item_past : (run n : ℕ) → n < run → item_from_one run (reports_to map n) ≡ None
  item_past zero n past = refl
  item_past (suc k) n past = slice_get_past (reports_to map n) k (omega (arith, past, length_reports n))

-- ---- one run more

-- different numbers aren't tied
pub other : (a b : ℕ) → a < b → eq_by_cmp nat_cmp a b ≡ false
other a b h = nat_is a b ∙ grind (arith, nat_tests)

own : (a : ℕ) → eq_by_cmp nat_cmp a a ≡ true
own a = nat_is a a ∙ grind (arith, nat_tests)

module _ (map : FinMap nat_cmp Reports) (run : ℕ) (reports : Reports) where
  earlier : (k : ℕ) → k < run → reports_to (insert map run reports) k ≡ reports_to map k
  unfolding reports_to
  earlier zero h = refl
  earlier (suc k) h =
      let kept : get (insert map run reports) (suc k) ≡ get map (suc k) = get-insert nat_cmp_total map run reports (suc k) ∙ ap (λ b. cond b (Some reports) (get map (suc k))) (other (suc k) run h) in
      ap (λ l. l ++ report_at (insert map run reports) (suc k) ∷ []) (earlier k (omega (arith, h))) ∙ ap (λ o. reports_to map k ++ unwrap_or o no_reports ∷ []) kept

  pub one_run_more : (n : ℕ) → run ≡ n + 1 → reports_to (insert map run reports) run ≡ reports_to map n ++ reports ∷ []
  one_run_more n next =
      let stands : get (insert map run reports) run ≡ Some reports = get-insert nat_cmp_total map run reports run ∙ ap (λ b. cond b (Some reports) (get map run)) (own run) in
      let last : report_at (insert map run reports) (n + 1) ≡ reports = ap (report_at (insert map run reports)) (sym next) ∙ ap (λ o. unwrap_or o no_reports) stands in
      ap (reports_to (insert map run reports)) next ∙ reports_suc (insert map run reports) n
      ∙ ap (λ l. l ++ report_at (insert map run reports) (n + 1) ∷ []) (earlier n (omega (arith, next))) ∙ ap (λ r. reports_to map n ++ r ∷ []) last
