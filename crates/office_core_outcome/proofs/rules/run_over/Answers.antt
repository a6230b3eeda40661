use Rattle.std.proofs.Common.{◌≡◌, ◌≤◌, ℕ, List, Result, Ok, Err, IfOk, length, sym, ap, subst, ◌∙◌}
use Rattle.testing_rules_model.specs.Covered.{Covered}
use Rattle.testing_rules_model.specs.StandsFor.{StandsFor}
use Rattle.testing_rules_model.specs.Suite.{Suite}
use Rattle.testing_rules_model.specs.Tells.{AreSaidBy}
use Rattle.testing_rules_model.specs.Excuses.{excuses_of}
use Rattle.testing_rules_model.specs.Updates.{IsUpdate}
use Rattle.testing_rules_reports.specs.Reports.{excuses_text, update_text}
use Rattle.testing_rules_model.specs.Provenance.{IsGivenBy}
use Rattle.testing_rules_laws.proofs.Giving.{facts_give_update}
use Rattle.testing_rules_laws.specs.steps.GivenUpdate.{suite_by}
use Rattle.testing_rules_model.specs.Updates.{Outcome as Update}
use Rattle.office_store_keeper.specs.declared.values.Reports.{Reports}
use Rattle.office_core_facts.specs.Outcome.{Outcome, outcome}
use Rattle.office_core_outcome.proofs.OutcomeFacts.{reported_is}
use Rattle.office_core_outcome.proofs.rules.run_over.Goals as goal

abbrev left : List ℕ → List ℕ → Suite → Outcome
left excuses updates testing = record { testing = testing; excuses = excuses; updates = updates }

-- what two facts of one value give
if_ok_two : {T E : Type 0} (r : Result T E) (P Q R : T → Type 0) → ((x : T) → P x → Q x → R x) → IfOk r P → IfOk r Q → IfOk r R
if_ok_two (Ok x) P Q R f p q = f x p q
if_ok_two (Err e) P Q R f p q = tt

if_ok_any : {T E : Type 0} (r : Result T E) (R : T → Type 0) → ((x : T) → R x) → IfOk r R
if_ok_any (Ok x) R f = f x
if_ok_any (Err e) R f = tt

pub returns-clause-ok : goal.returns-clause-ok
returns-clause-ok c =
    let setup = c.args.setup.now in
    let run = c.args.run in
    let date = c.args.date in
    let t = c.args.testing.now in
    let f = c.args.facts.now in
    let archs = c.archs-archs.result.now in
    let es = c.in_ok-excuses.excuses in
    let ds = c.in_ok-update.update in
    let new = c.migrate.new.testing in
    let same = c.archs-archs.ensures.same in
    if_ok_two c.reports-reports.result (λ (r : Reports). r.excuses ≡ excuses_text archs run date es) (λ (r : Reports). r.updates ≡ update_text archs run date ds)
    (λ (r : Reports). (s : Covered) → StandsFor f s t → left r.excuses r.updates new ≡ outcome setup run date s t)
    (λ r first second s stands.
    let made = c.in_ok-excuses.ensures s stands in
    let moved : IsUpdate archs s es t ds new = c.in_ok-update.ensures.ok s date stands made in
    ap (λ (x : List ℕ). left x r.updates new) (first ∙ ap (λ (a : List (List ℕ)). excuses_text a run date es) same)
    ∙ ap (λ (x : List ℕ). left (excuses_text setup.archs run date es) x new) (second ∙ ap (λ (a : List (List ℕ)). update_text a run date ds) same)
    ∙ reported_is setup run date s t new es ds
    (subst (λ (a : List (List ℕ)). es ≡ excuses_of a s t date) same made)
    (subst (λ (a : List (List ℕ)). IsUpdate a s es t ds new) same moved))
    c.reports-reports.ensures.excuses c.reports-reports.ensures.updates

pub returns-clause-given : goal.returns-clause-given
returns-clause-given c =
    let t = c.args.testing.now in
    let archs = c.archs-archs.result.now in
    let f = c.args.facts.now in
    let es = c.in_ok-excuses.excuses in
    let new = c.migrate.new.testing in
    let same = c.archs-archs.ensures.same in
    let few : length archs ≤ 16 = subst (λ (a : List (List ℕ)). length a ≤ 16) (sym same) c.archs-archs.ensures.valid.archs.few in
    let is : new ≡ suite_by archs f es t = ap (λ (o : Update). o.suite) c.in_ok-update.ensures.by_lists in
    if_ok_any c.reports-reports.result (λ (r : Reports). (s : Covered) → AreSaidBy f s → IsGivenBy c.args.setup.now.archs s t new)
    (λ r s said. subst (λ (a : List (List ℕ)). IsGivenBy a s t new) same (subst (λ (x : Suite). IsGivenBy archs s t x) (sym is) (facts_give_update archs s f es t few said).0))
