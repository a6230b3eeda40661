use Rattle.std.proofs.Common.{◌-◌, ℕ, Ok, length, sym, subst}
use Rattle.std.proofs.lemmas.Result.{IfOk-from_err}
use Rattle.office_mail.specs.Kept.{Kept}
use Rattle.office_mail.specs.Lists.{Lists}
use Rattle.office_mail.specs.Runs.{IsReadyCount}
use Rattle.office_store_keeper.specs.Content.{Content}
use Rattle.office_core_facts.specs.State.{IsOffice, IsSound}
use Rattle.office_core.specs.History.{Leads, settling}
use Rattle.office_core.proofs.HistoryFacts.{follow_stay, settled}
use Rattle.office_core.proofs.office.Office.settle.Goals as goal

pub returns-in_err-finished-clause-steps : goal.returns-in_err-finished-clause-steps
returns-in_err-finished-clause-steps g c = λ holds.
    let trusted = holds.0 in
    let keeper = g.K.Keeper in
    let new : Content = keeper.content c.settle.new.keeper in
    let answer = c.from_residual.result in
    subst (λ v. IsSound keeper v → Leads (keeper.setup v) (keeper.content v) (settling (length new.reports - length (keeper.content v).reports) answer) new) c.self.view_is (λ sound.
    let old : Content = keeper.content c.self.inside.keeper in
    let office : IsOffice c.self.inside.setup old = subst (λ (s : Lists). IsOffice s old) c.self.invariant.0 sound.1 in
    let done = c.settle.ensures in
    subst (λ (s : Lists). Leads s old (settling (length new.reports - length old.reports) answer) new) (sym c.self.invariant.0)
    (settled c.self.inside.setup answer old new office (done.office trusted sound.0 office) (done.kept trusted) (done.grows trusted) (IfOk-from_err answer _ c.from_residual.ensures.0))) holds.1

pub returns-clause-steps : goal.returns-clause-steps
returns-clause-steps g c = λ holds.
    let trusted = holds.0 in
    let keeper = g.K.Keeper in
    let new : Content = keeper.content c.settle.new.keeper in
    let n : ℕ = c.in_ok-finished.finished in
    let answer = Ok (record { ready = n; finished = n }) in
    subst (λ v. IsSound keeper v → Leads (keeper.setup v) (keeper.content v) (settling (length new.reports - length (keeper.content v).reports) answer) new) c.self.view_is (λ sound.
    let old : Content = keeper.content c.self.inside.keeper in
    let office : IsOffice c.self.inside.setup old = subst (λ (s : Lists). IsOffice s old) c.self.invariant.0 sound.1 in
    let done = c.settle.ensures in
    let ok = c.in_ok-finished.ensures in
    let count : IsReadyCount c.self.inside.setup old.kept (length new.reports) = subst (λ (m : ℕ). IsReadyCount c.self.inside.setup old.kept m) (sym (ok.finished trusted)) (ok.ready trusted sound.0 office) in
    subst (λ (s : Lists). Leads s old (settling (length new.reports - length old.reports) answer) new) (sym c.self.invariant.0)
    (settled c.self.inside.setup answer old new office (done.office trusted sound.0 office) (done.kept trusted) (done.grows trusted)
    (subst (λ (k : Kept). IsReadyCount c.self.inside.setup k (length new.reports)) (sym (done.kept trusted)) count))) holds.1

pub returns-in_err-finished-clause-runs : goal.returns-in_err-finished-clause-runs
returns-in_err-finished-clause-runs g c = λ holds. follow_stay _ _ _ _ (returns-in_err-finished-clause-steps g c holds)

pub returns-clause-runs : goal.returns-clause-runs
returns-clause-runs g c = λ holds. follow_stay _ _ _ _ (returns-clause-steps g c holds)
