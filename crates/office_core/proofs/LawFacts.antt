-- What is a function of the kept mail, and what stands of it where more is kept.
use Rattle.std.proofs.Common.{◌≡◌, ℕ, zero, suc, ◌+◌, ◌-◌, ◌≤◌, List, [], ◌∷◌, ◌++◌, length, refl, sym, ap, ◌∙◌, arith, append_assoc, append-nil, subst, Some}
use Rattle.office_mail.specs.Kept.{Kept, Within}
use Rattle.office_mail.specs.Laws.{SameTexts}
use Rattle.office_mail.specs.Lists.{Lists}
use Rattle.office_mail.specs.Runs.{IsReadyCount}
use Rattle.office_mail.proofs.LawFacts.{same_kept_from}
use Rattle.office_store_keeper.specs.Content.{Content, item_from_one}
use Rattle.office_store_keeper.specs.declared.values.Reports.{Reports}
use Rattle.office_core.specs.Laws.{RunsStand, TookTexts}
use Rattle.office_core_facts.specs.Outcome.{Outcome, reports_of, reports_to, testing_after}
use Rattle.office_core_facts.specs.State.{IsOffice}
use Rattle.office_core_facts.proofs.ReportFacts.{report_is}
use Rattle.office_core_outcome.proofs.OutcomeFacts.{outcome_of-later}
use Rattle.office_core.proofs.FinishFacts.{reports_to-suc}
use Rattle.office_core.proofs.OfficeFacts.{reports_to-later}

same_kept : (setup : Lists) (xs ys : List (List ℕ)) (a b : Content) → TookTexts setup xs a → TookTexts setup ys b → SameTexts setup xs ys → a.kept ≡ b.kept
same_kept setup xs ys a b x y same = x.kept ∙ same_kept_from setup xs ys x.one_text y.one_text same ∙ sym y.kept

pub each_report : (setup : Lists) (xs ys : List (List ℕ)) (a b : Content) (k : ℕ) → TookTexts setup xs a → TookTexts setup ys b → SameTexts setup xs ys → k ≤ length a.reports → k ≤ length b.reports → item_from_one k a.reports ≡ item_from_one k b.reports
each_report setup xs ys a b zero x y same h l = refl
each_report setup xs ys a b (suc k) x y same h l =
    report_is setup a (suc k) x.office (omega arith) h
    ∙ ap (λ (m : Kept). Some (reports_of setup m (suc k))) (same_kept setup xs ys a b x y same)
    ∙ sym (report_is setup b (suc k) y.office (omega arith) l)

pub same_office : (setup : Lists) (xs ys : List (List ℕ)) (a b : Content) → TookTexts setup xs a → TookTexts setup ys b → SameTexts setup xs ys → length a.reports ≡ length b.reports → (a.reports ≡ b.reports) × (a.testing ≡ b.testing)
same_office setup xs ys a b x y same size =
    let mail = same_kept setup xs ys a b x y same in (
      x.office.reports ∙ ap (λ (m : Kept). reports_to setup m (length a.reports)) mail ∙ ap (reports_to setup b.kept) size ∙ sym y.office.reports,
      x.office.testing_is ∙ ap (λ (m : Kept). testing_after setup m (length a.reports)) mail ∙ ap (testing_after setup b.kept) size ∙ sym y.office.testing_is,
    )

pub same_count : (setup : Lists) (kept : Kept) (n m : ℕ) → IsReadyCount setup kept n → IsReadyCount setup kept m → n ≡ m
same_count setup kept n m h l =
    let low = l.none_above n h.holds in
    let high = h.none_above m l.holds in
    omega (arith, low, high)

pub settled_office : (setup : Lists) (xs ys : List (List ℕ)) (a b : Content) → TookTexts setup xs a → TookTexts setup ys b → SameTexts setup xs ys → IsReadyCount setup a.kept (length a.reports) → IsReadyCount setup b.kept (length b.reports) → (a.reports ≡ b.reports) × (a.testing ≡ b.testing)
settled_office setup xs ys a b x y same all every =
    let all_there : IsReadyCount setup b.kept (length a.reports) = subst (λ (m : Kept). IsReadyCount setup m (length a.reports)) (same_kept setup xs ys a b x y same) all in
    same_office setup xs ys a b x y same (same_count setup b.kept (length a.reports) (length b.reports) all_there every)

-- the reports of more runs begin with those of fewer
pub more_reports : (setup : Lists) (kept : Kept) (k d : ℕ) → (more : List Reports) × (reports_to setup kept (k + d) ≡ reports_to setup kept k ++ more)
more_reports setup kept k zero = let none : k + 0 ≡ k = omega arith in ([], ap (reports_to setup kept) none ∙ sym (append-nil (reports_to setup kept k)))
more_reports setup kept k (suc d) =
    let before = more_reports setup kept k d in
    let last : List Reports = reports_of setup kept (k + d + 1) ∷ [] in
    let next : k + suc d ≡ k + d + 1 = omega arith in (
      before.0 ++ last,
      ap (reports_to setup kept) next ∙ reports_to-suc setup kept (k + d) ∙ ap (λ (rs : List Reports). rs ++ last) before.1 ∙ append_assoc (reports_to setup kept k) before.0 last,
    )

pub runs_stand : (setup : Lists) (old new : Content) → IsOffice setup old → IsOffice setup new → Within old.kept new.kept → length old.reports ≤ length new.reports → RunsStand old new
runs_stand setup old new was is within grown =
    let n : ℕ = length old.reports in
    let m : ℕ = length new.reports in
    let split : m ≡ n + (m - n) = omega (arith, grown) in
    let rest = more_reports setup new.kept n (m - n) in
    record {
      more = rest.0;
      reports = is.reports ∙ ap (reports_to setup new.kept) split ∙ rest.1
          ∙ ap (λ (rs : List Reports). rs ++ rest.0) (reports_to-later setup old.kept new.kept n within was.ready ∙ sym was.reports);
      testing = λ e. is.testing_is ∙ ap (testing_after setup new.kept) e ∙ ap (λ (o : Outcome). o.testing) (outcome_of-later setup old.kept new.kept n within was.ready) ∙ sym was.testing_is;
    }
