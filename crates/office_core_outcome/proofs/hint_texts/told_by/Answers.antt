use Rattle.std.proofs.Common.{◌≡◌, ℕ, List, filter, is_some, option_copied, sym, ap, subst, ◌∙◌}
use Rattle.testing_rules_model.specs.Excuses.{excuses_of}
use Rattle.testing_rules_reports.specs.Reports.{update_text}
use Rattle.testing_rules_model.specs.Suite.{Suite}
use Rattle.testing_rules_model.specs.declared.excuse.Excuse.{Excuse}
use Rattle.testing_rules_model.specs.declared.facts.HintIn.{HintIn}
use Rattle.testing_rules_model.specs.declared.facts.UnhintIn.{UnhintIn}
use Rattle.testing_rules_model.specs.declared.update.Decision.{Decision}
use Rattle.testing_rules_model.specs.Unstable.{hints_by_number, unhints_by_number}
use Rattle.office_core_replies.specs.Replies.{name_at}
use Rattle.office_core_facts.specs.Outcome.{outcome}
use Rattle.office_core_facts.specs.Seen.{release}
use Rattle.office_core_outcome.specs.HintTold.{hint_text, is_of_hint, standing_of}
use Rattle.office_core_outcome.specs.Trial.{judged_by}
use Rattle.office_core_outcome.specs.WhyRefused.{AreToldOf, hint_at}
use Rattle.office_core_outcome.proofs.HintTextFacts.{some_copied}
use Rattle.office_core_outcome.proofs.RefusalFacts.{decisions_are, told_in, updates_are}
use Rattle.office_core_outcome.proofs.hint_texts.told_by.Goals as goal

pub returns : goal.returns
returns c = λ s new stands is.
    let a = c.args in
    let setup = a.setup.now in
    let t : Suite = a.testing.now in
    let facts = a.facts.now in
    let asked = a.asked in
    let number = asked.number in
    let archs = c.archs-archs.result.now in
    let es : List Excuse = c.as_slice-excuses.result.now in
    let sender = c.name_at-sender.result.now in
    let named : sender ≡ name_at setup (release setup) = c.name_at-sender.ensures ∙ ap (name_at setup) c.release_place.ensures in
    let made : es ≡ excuses_of setup.archs s t asked.date = c.as_slice-excuses.ensures ∙ is.excuses in
    let decided = c.as_slice-decisions.ensures ∙ decisions_are setup asked.date s t new a.ruled.now is in
    let reasons = c.in_ok-reasons.reasons in
    let update : c.deref.result.now ≡ (outcome setup asked.run asked.date s t).updates =
    c.deref.ensures ∙ c.in_ok-update.ensures ∙ ap (λ (names : List (List ℕ)). update_text names asked.run asked.date a.ruled.now.update) c.archs-archs.ensures.same ∙ updates_are setup asked.date s t new a.ruled.now is asked.run in
    let hint : option_copied c.hint_at-hint.result ≡ hint_at (hints_by_number s) number = c.hint_at-hint.ensures ∙ ap (λ (hints : List HintIn). hint_at hints number) (c.hints.ensures ∙ stands.hints) in
    let stand : c.in_ok-standing.standing.now ≡ standing_of (unhints_by_number s) (hint_at (hints_by_number s) number) =
    c.in_ok-standing.ensures ∙ ap (λ (unhints : List UnhintIn). standing_of unhints (option_copied c.hint_at-hint.result)) stands.unhints ∙ ap (standing_of (unhints_by_number s)) hint in
    record {
      reasons = reasons;
      reasons_are = subst (λ (ds : List Decision). AreToldOf (judged_by setup 0 asked.date s t) (filter (is_of_hint number) ds) reasons) decided
          (told_in setup 0 asked.date s t facts stands sender archs es named c.archs-archs.ensures.same made (filter (is_of_hint number) c.as_slice-decisions.result.now) reasons c.in_ok-reasons.ensures);
      is = c.in_ok-text.ensures
          ∙ ap (λ (name : List ℕ). hint_text name asked.run number c.deref.result.now c.in_ok-standing.standing.now c.as_str.result.now) named
          ∙ ap (λ (text : List ℕ). hint_text (name_at setup (release setup)) asked.run number text c.in_ok-standing.standing.now c.as_str.result.now) update
          ∙ ap (λ (words : List ℕ). hint_text (name_at setup (release setup)) asked.run number (outcome setup asked.run asked.date s t).updates words c.as_str.result.now) stand
          ∙ ap (hint_text (name_at setup (release setup)) asked.run number (outcome setup asked.run asked.date s t).updates (standing_of (unhints_by_number s) (hint_at (hints_by_number s) number))) c.as_str.ensures;
      known = c.is_some.ensures ∙ sym (some_copied c.hint_at-hint.result) ∙ ap is_some hint;
    }
