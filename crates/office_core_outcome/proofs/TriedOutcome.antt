-- A run decides the same over the same messages, in whatever order they are listed.
use Rattle.std.proofs.Common.{◌≡◌, ℕ, List, sym, ap, ◌∙◌, refl}
use Rattle.jiff_core.specs.declared.civil.date.Date.{Date}
use Rattle.testing_rules_model.specs.declared.excuse.Excuse.{Excuse}
use Rattle.testing_rules_model.specs.declared.facts.UploadIn.{UploadIn}
use Rattle.testing_rules_model.specs.declared.facts.HintIn.{HintIn}
use Rattle.testing_rules_model.specs.declared.facts.UnhintIn.{UnhintIn}
use Rattle.testing_rules_model.specs.declared.suite.RowIn.{RowIn}
use Rattle.testing_rules_model.specs.Covered.{Covered, uploads_in}
use Rattle.testing_rules_model.specs.Excuses.{excuses_of}
use Rattle.testing_rules_model.specs.FactLists.{FactLists, no_facts}
use Rattle.testing_rules_model.specs.SameMessages.{SameElements, HasOneOfEach}
use Rattle.testing_rules_model.specs.StandsFor.{StandsFor}
use Rattle.testing_rules_model.specs.Suite.{Suite}
use Rattle.testing_rules_model.specs.Unstable.{unstable_sources, unstable_builds, unstable_rows, built_rows, greatest_drops, bug_states, hints_by_number, unhints_by_number, last_delays}
use Rattle.testing_rules_model.specs.Updates.{update_by, update_of}
use Rattle.testing_rules_model.proofs.SameFacts.{stands-same}
use Rattle.testing_rules_excuses.proofs.Grounds.{same-excuses}
use Rattle.office_mail.specs.Lists.{Lists}
use Rattle.office_core_facts.specs.Outcome.{outcome}
use Rattle.office_core_facts.specs.steps.Reported.{reported}

-- all facts of some messages
abbrev facts_of : Covered → FactLists
facts_of s = record no_facts {
  sources = unstable_sources s;
  uploads = uploads_in s;
  rows = unstable_builds s;
  drops = greatest_drops s;
  bugs = bug_states s;
  hints = hints_by_number s;
  unhints = unhints_by_number s;
  delays = last_delays s;
}

facts_stand : (s : Covered) (t : Suite) → StandsFor (facts_of s) s t
facts_stand s t = record {
  sources = refl;
  rows = refl;
  drops = refl;
  bugs = refl;
  hints = refl;
  unhints = refl;
  delays = refl;
  are_uploads = λ u c. c;
  counted = λ u c news. c;
}

-- where facts stand for two lists of messages, a run decides the same over both
outcome_alike : (setup : Lists) (run : ℕ) (date : Date) (f : FactLists) (s o : Covered) (t : Suite) → StandsFor f s t → StandsFor f o t → outcome setup run date s t ≡ outcome setup run date o t
unfolding outcome
outcome_alike setup run date f s o t hs ho =
    let archs = setup.archs in
    let excuses : excuses_of archs s t date ≡ excuses_of archs o t date = sym (same-excuses archs f s t date hs) ∙ same-excuses archs f o t date ho in
    let sources : unstable_sources s ≡ unstable_sources o = sym hs.sources ∙ ho.sources in
    let rows : unstable_rows archs s ≡ unstable_rows archs o = ap (built_rows archs) (sym hs.rows ∙ ho.rows) in
    let hints : hints_by_number s ≡ hints_by_number o = sym hs.hints ∙ ho.hints in
    let unhints : unhints_by_number s ≡ unhints_by_number o = sym hs.unhints ∙ ho.unhints in
    let first : List Excuse = excuses_of archs s t date in
    let update : update_of archs s first t ≡ update_of archs o first t =
    ap (λ (us : List UploadIn). update_by archs us (unstable_rows archs s) (hints_by_number s) (unhints_by_number s) first t) sources
    ∙ ap (λ (rs : List RowIn). update_by archs (unstable_sources o) rs (hints_by_number s) (unhints_by_number s) first t) rows
    ∙ ap (λ (hs : List HintIn). update_by archs (unstable_sources o) (unstable_rows archs o) hs (unhints_by_number s) first t) hints
    ∙ ap (λ (us : List UnhintIn). update_by archs (unstable_sources o) (unstable_rows archs o) (hints_by_number o) us first t) unhints in
    ap (reported setup run date first) update
    ∙ ap (λ (es : List Excuse). reported setup run date es (update_of archs o es t)) excuses

-- of two lists with the same messages as one that has one of each
pub outcome_same : (setup : Lists) (run : ℕ) (date : Date) (all s o : Covered) (t : Suite) → HasOneOfEach all → SameElements all s → SameElements all o → outcome setup run date s t ≡ outcome setup run date o t
outcome_same setup run date all s o t one this that =
    let stand : StandsFor (facts_of all) all t = facts_stand all t in
    outcome_alike setup run date (facts_of all) s o t (stands-same all s this one (facts_of all) t stand) (stands-same all o that one (facts_of all) t stand)
