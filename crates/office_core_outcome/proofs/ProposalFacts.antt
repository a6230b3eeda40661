-- What is proposed.
use Rattle.std.proofs.Common.{◌≡◌, ℕ, ◌+◌, true, List, [], Option, None, ap, sym, subst, ◌∙◌, refl}
use Rattle.jiff_core.specs.declared.civil.date.Date.{Date}
use Rattle.testing_rules_items.specs.Words.{Text}
use Rattle.testing_rules_model.specs.Covered.{Covered}
use Rattle.testing_rules_model.specs.FactLists.{FactLists}
use Rattle.testing_rules_model.specs.StandsFor.{StandsFor}
use Rattle.testing_rules_model.specs.Suite.{Suite}
use Rattle.testing_rules_model.specs.declared.update.Decision.{Decision}
use Rattle.office_mail.specs.Lists.{Lists}
use Rattle.office_mail.specs.Kept.{Kept}
use Rattle.office_store_keeper.specs.declared.values.Letter.{Letter}
use Rattle.office_core_facts.specs.Seen.{items_within, release}
use Rattle.office_core_outcome.specs.declared.TrialOptions.{TrialOptions}
use Rattle.office_core_outcome.specs.declared.proposal.Proposal.{Proposal}
use Rattle.office_core_outcome.specs.Hints.{first_refused, hint_letters, with_letters}
use Rattle.office_core_outcome.specs.Proposal.{AreAnswers, IsProposed, KeepsMoves, are_done, decisions_by, tried_decisions}
use Rattle.office_core_outcome.specs.steps.Settled.{AreAnswersOver, IsSettled, KeepsMovesOver}
use Rattle.office_core_facts.specs.Outcome.{outcome, testing_after}
use Rattle.testing_rules_reports.specs.Reports.{update_text}
use Rattle.office_core_outcome.specs.declared.Trial.TheVariants.{Told}
use Rattle.office_core_outcome.specs.Trial.{IsTrial, judged, tried}
use Rattle.office_core_outcome.specs.WhyRefused.{AreReasons}
use Rattle.office_core_outcome.proofs.TryFacts.{trial_told}

-- no letters say nothing more
pub with_none : (setup : Lists) (sender : ℕ) (mail : Covered) → mail ≡ with_letters setup sender [] mail
unfolding with_letters
with_none setup sender mail = refl

-- what the run decides with no hint
pub settled_none : (setup : Lists) (date : Date) (number : ℕ) (facts : FactLists) (t : Suite) (ds : List Decision) → ((s : Covered) → StandsFor facts s t → ds ≡ decisions_by setup date s t) → IsSettled setup date number facts t [] ds
settled_none setup date number facts t ds by = record {
  taken = refl;
  done = refl;
  decided = λ s stands. by s stands ∙ ap (λ (mail : Covered). decisions_by setup date mail t) (with_none setup (release setup) s);
}

-- what the run decides with hints of which it does each
pub settled_all : (setup : Lists) (date : Date) (number : ℕ) (facts : FactLists) (t : Suite) (hints : List (List ℕ)) (letters : List Letter) (ds : List Decision) → None ≡ first_refused setup number 0 hints → letters ≡ hint_letters setup number hints
    → are_done number hints ds ≡ true → ((s : Covered) → StandsFor facts s t → ds ≡ decisions_by setup date (with_letters setup (release setup) letters s) t) → IsSettled setup date number facts t hints ds
settled_all setup date number facts t hints letters ds taken are done by = record {
  taken = sym taken;
  done = done;
  decided = λ s stands. by s stands ∙ ap (λ (ls : List Letter). decisions_by setup date (with_letters setup (release setup) ls s) t) are;
}

module _ (setup : Lists) (kept : Kept) (k : ℕ) (date : Date) (covers : ℕ → ℕ) (number : ℕ) (facts : FactLists) (t : Suite) (hints : List (List ℕ)) (ds : List Decision) (at : number ≡ covers (release setup))
    (before : t ≡ testing_after setup kept k) (stands : StandsFor facts (items_within setup kept covers) t) (settled : IsSettled setup date number facts t hints ds) where
  abbrev mail : Covered
  mail = items_within setup kept covers

  -- the decisions are those of the trial
  pub decided_is : ds ≡ tried_decisions setup kept k date covers hints
  decided_is =
      settled.decided mail stands
      ∙ ap (λ (n : ℕ). decisions_by setup date (with_letters setup (release setup) (hint_letters setup n hints) mail) t) at
      ∙ ap (decisions_by setup date (with_letters setup (release setup) (hint_letters setup (covers (release setup)) hints) mail)) before

  pub taken_over : first_refused setup (covers (release setup)) 0 hints ≡ None
  taken_over = subst (λ (n : ℕ). first_refused setup n 0 hints ≡ None) at settled.taken

  pub done_over : are_done (covers (release setup)) hints (tried_decisions setup kept k date covers hints) ≡ true
  done_over =
      ap (λ (n : ℕ). are_done n hints (tried_decisions setup kept k date covers hints)) (sym at)
      ∙ ap (are_done number hints) (sym decided_is)
      ∙ settled.done

  -- and move all that the run moves without the hints
  pub keeps_over : KeepsMovesOver setup date facts t ds
      → KeepsMoves (decisions_by setup date mail (testing_after setup kept k)) (tried_decisions setup kept k date covers hints)
  keeps_over keeps =
      subst (λ (old : Suite). KeepsMoves (decisions_by setup date mail old) (tried_decisions setup kept k date covers hints)) before
      (subst (KeepsMoves (decisions_by setup date mail t)) decided_is (keeps mail stands))

  -- what is told of the sources
  pub answers_are : (sources : List Text) (texts : List (Option Text)) → AreAnswersOver setup.archs date facts t ds sources texts
      → AreAnswers setup.archs date mail (testing_after setup kept k) (tried_decisions setup kept k date covers hints) sources texts
  answers_are sources texts so =
      subst (λ (old : Suite). AreAnswers setup.archs date mail old (tried_decisions setup kept k date covers hints) sources texts) before
      (subst (λ (x : List Decision). AreAnswers setup.archs date mail t x sources texts) decided_is (so mail stands))

-- a proposal is a trial
pub trial_of : (setup : Lists) (kept : Kept) (k : ℕ) (terms : TrialOptions) (sources : List (List ℕ)) (p : Proposal) (reasons : List ℕ) → (proposed : IsProposed setup kept k terms sources p) → AreReasons (judged setup kept k p.date proposed.covers p.hints.items) reasons
    → IsTrial setup kept k terms p.hints.items (Told (tried setup kept k p.date proposed.covers p.hints.items) reasons)
trial_of setup kept k terms sources p reasons proposed are =
    let covers = proposed.covers in
    trial_told setup kept k terms p.date covers p.hints.items proposed.are (sym proposed.dated) (tried setup kept k p.date covers p.hints.items) reasons (sym proposed.taken) (record { report_is = refl; reasons_are = are })

-- whose report has the decisions of which the proposal speaks
pub updates_of : (setup : Lists) (kept : Kept) (k : ℕ) (date : Date) (covers : ℕ → ℕ) (hints : List (List ℕ)) → (tried setup kept k date covers hints).with.updates ≡ update_text setup.archs (k + 1) date (tried_decisions setup kept k date covers hints)
unfolding outcome
updates_of setup kept k date covers hints = refl
