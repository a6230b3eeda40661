use Rattle.std.proofs.Common.{ℕ, List, ap, ◌∙◌}
use Rattle.testing_rules_reports.specs.Reports.{excuses_text, update_text}
use Rattle.testing_rules_reports.specs.declared.hint_lines.Decided.{Decided}
use Rattle.office_core_outcome.proofs.RefusalFacts.{decided_is}
use Rattle.office_core_outcome.proofs.decisions.decided_by.Goals as goal

pub returns-in-Ok : goal.returns-in-Ok
returns-in-Ok c = λ s t is.
    let a = c.args in
    let setup = a.setup.now in
    let run = a.run in
    let date = a.date in
    let r = a.ruled.now in
    let same = c.archs-archs.ensures.same in
    let told : Decided = record { excuses = c.in-Ok.reports.excuses; updates = c.in-Ok.reports.updates; testing = c.in_ok-testing.testing } in
    decided_is setup date s t a.after.now r is run told
    (c.in-Ok.ensures.excuses ∙ ap (λ (archs : List (List ℕ)). excuses_text archs run date r.excuses) same)
    (c.in-Ok.ensures.updates ∙ ap (λ (archs : List (List ℕ)). update_text archs run date r.update) same)
    c.in_ok-testing.ensures
