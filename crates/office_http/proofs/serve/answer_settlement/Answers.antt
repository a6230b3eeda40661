use Rattle.office_core.specs.Preserves.{StoreRefused}
use Rattle.office_core_facts.specs.State.{state_of}
use Rattle.office_core.proofs.CarryFacts.{risen}
use Rattle.office_http.proofs.ServeFacts.{settled, place_status}
use Rattle.office_http.proofs.serve.answer_settlement.Goals as goal

pub returns-clause-place : goal.returns-clause-place
returns-clause-place g c = rw c.status_answer.ensures (place_status (g.K.Keeper.setup c.args.office.now) c.settle.result)

pub returns-clause-runs : goal.returns-clause-runs
returns-clause-runs g c =
    let keeper = g.K.Keeper in
    let s0 = c.args.office.now in
    let s1 = c.settle.new.self in
    let r = c.settle.result in
    let e = c.settle.ensures in
    λ h. rw c.status_answer.ensures (settled (StoreRefused keeper s0 s1) (state_of keeper s0) (state_of keeper s1) c.args.text.now r (e.ready h) (e.finished h) e.changes.carries.setup (e.kept h) (e.grows h) (e.only_ready h)
    (risen (keeper.refusals s0) (keeper.refusals s1) r e.changes.counted))
