-- What a trial is told.
use Rattle.std.proofs.Common.{◌≡◌, ℕ, ◌+◌, List, [], Option, Some, None, sym, ap, subst, ◌∙◌}
use Rattle.jiff_core.specs.declared.civil.date.Date.{Date}
use Rattle.testing_rules_model.specs.Covered.{Covered}
use Rattle.testing_rules_model.specs.Suite.{Suite}
use Rattle.office_mail.specs.Lists.{Lists}
use Rattle.office_mail.specs.Kept.{Kept}
use Rattle.office_mail.specs.Runs.{latest_day, orders_to}
use Rattle.office_store_keeper.specs.declared.values.Letter.{Letter}
use Rattle.office_core_facts.specs.Outcome.{outcome, testing_after}
use Rattle.testing_rules_reports.specs.declared.hint_lines.Decided.{Decided}
use Rattle.testing_rules_reports.specs.declared.hint_lines.TrialReport.{TrialReport}
use Rattle.office_core_outcome.specs.declared.RefusedHint.{RefusedHint}
use Rattle.office_core_outcome.specs.declared.TrialOptions.{TrialOptions}
use Rattle.office_core_outcome.specs.declared.Trial.{Trial}
use Rattle.office_core_outcome.specs.declared.Trial.TheVariants.{Told, Refused}
use Rattle.office_core_facts.specs.Seen.{items_within, release, AreTrialCovers}
use Rattle.office_core_outcome.specs.Hints.{first_refused, hint_letters, with_letters}
use Rattle.office_core_outcome.specs.Trial.{IsReasoned, IsTrial, decided, judged, judged_by, told_on, trial_date, tried}
use Rattle.office_core_outcome.specs.steps.TrialSteps.{IsTried, unless_refused}
use Rattle.office_core_outcome.specs.WhyRefused.{AreReasons}

module _ (setup : Lists) (kept : Kept) (k : ℕ) (date : Date) (covers : ℕ → ℕ) (hints : List (List ℕ)) (letters : List Letter) (t : Suite) (lettered : letters ≡ hint_letters setup (covers (release setup)) hints) (before : t ≡ testing_after setup kept k) where
  abbrev mail : Covered
  mail = items_within setup kept covers

  abbrev over : Covered → ℕ → Suite → Decided
  over s run old = decided setup run (outcome setup run date s old)

  moved : (s : Covered) (run : ℕ) → run ≡ k + 1 → over s run t ≡ over s (k + 1) (testing_after setup kept k)
  moved s run next = ap (λ (r : ℕ). over s r t) next ∙ ap (over s (k + 1)) before

  pub tried_is : (run first : ℕ) (plain hinted : Decided) → run ≡ k + 1 → first ≡ covers (release setup) + 1 → plain ≡ over mail run t → hinted ≡ over (with_letters setup (release setup) letters mail) run t
      → ◌≡◌ {A = TrialReport} (record { run = run; date = date; first = first; without = plain; with = hinted }) (tried setup kept k date covers hints)
  tried_is run first plain hinted next behind one two =
      let e_one = one ∙ moved mail run next in
      let e_two = two ∙ ap (λ (ls : List Letter). over (with_letters setup (release setup) ls mail) run t) lettered ∙ moved (with_letters setup (release setup) (hint_letters setup (covers (release setup)) hints) mail) run next in
      λ i. record { run = next i; date = date; first = behind i; without = e_one i; with = e_two i }

  -- the reasons of the run with these letters are those of the run with the hints
  pub reasons_are : (behind : ℕ) (reasons : List ℕ) → behind ≡ covers (release setup) → AreReasons (judged_by setup behind date (with_letters setup (release setup) letters mail) t) reasons → AreReasons (judged setup kept k date covers hints) reasons
  reasons_are behind reasons at are =
      subst (λ (old : Suite). AreReasons (judged_by setup (covers (release setup)) date (with_letters setup (release setup) (hint_letters setup (covers (release setup)) hints) mail) old) reasons) before
      (subst (λ (ls : List Letter). AreReasons (judged_by setup (covers (release setup)) date (with_letters setup (release setup) ls mail) t) reasons) lettered
      (subst (λ (n : ℕ). AreReasons (judged_by setup n date (with_letters setup (release setup) letters mail) t) reasons) at are))

-- a trial over these covers, with this date
pub is_trial : (setup : Lists) (kept : Kept) (k : ℕ) (terms : TrialOptions) (hints : List (List ℕ)) (covers : ℕ → ℕ) (day : Option Date) (trial : Trial) (reasons : List ℕ) → AreTrialCovers setup kept k terms.all covers → day ≡ trial_date (latest_day (orders_to setup kept k)) terms.day
    → trial ≡ told_on setup kept k day covers hints reasons → IsReasoned setup kept k covers hints trial → IsTrial setup kept k terms hints trial
is_trial setup kept k terms hints covers day trial reasons are is told so = record {
  covers = covers;
  are = are;
  reasons = reasons;
  told = told ∙ ap (λ (d : Option Date). told_on setup kept k d covers hints reasons) is;
  reasoned = so;
}

module _ (setup : Lists) (kept : Kept) (k : ℕ) (terms : TrialOptions) (date : Date) (covers : ℕ → ℕ) (hints : List (List ℕ)) (are : AreTrialCovers setup kept k terms.all covers) (dated : Some date ≡ trial_date (latest_day (orders_to setup kept k)) terms.day) where
  -- one whose hints are refused
  pub trial_refused : (refused : RefusedHint) → Some refused ≡ first_refused setup (covers (release setup)) 0 hints → IsTrial setup kept k terms hints (Refused refused)
  trial_refused refused e =
      is_trial setup kept k terms hints covers (Some date) (Refused refused) [] are dated (ap (λ (o : Option RefusedHint). unless_refused o (tried setup kept k date covers hints) []) e) tt

  -- and one whose hints are tried
  pub trial_told : (t : TrialReport) (reasons : List ℕ) → None ≡ first_refused setup (covers (release setup)) 0 hints → IsTried setup kept k date covers hints t reasons → IsTrial setup kept k terms hints (Told t reasons)
  trial_told t reasons e is =
      is_trial setup kept k terms hints covers (Some date) (Told t reasons) reasons are dated
      (ap (λ (r : TrialReport). Told r reasons) is.report_is ∙ ap (λ (o : Option RefusedHint). unless_refused o (tried setup kept k date covers hints) reasons) e)
      (subst (λ (d : Date). AreReasons (judged setup kept k d covers hints) reasons) (sym (ap (λ (r : TrialReport). r.date) is.report_is)) is.reasons_are)
