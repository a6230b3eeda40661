use Rattle.office_core.specs.Preserves.{StoreRefused}
use Rattle.office_core_facts.specs.State.{state_of}
use Rattle.office_core.proofs.CarryFacts.{risen_delivery, state_asked}
use Rattle.office_http.proofs.ServeFacts.{looked, place_delivery}
use Rattle.office_http.proofs.serve.answer_look.Goals as goal

pub returns-clause-place : goal.returns-clause-place
returns-clause-place g c = rw c.delivery_answer.ensures (place_delivery (g.K.Keeper.setup c.args.office.now) c.answer.result c.answer.ensures.place)

pub returns-clause-runs : goal.returns-clause-runs
returns-clause-runs g c =
    let keeper = g.K.Keeper in
    let s0 = c.args.office.now in
    let s1 = c.answer.new.self in
    let r = c.answer.result in
    let e = c.answer.ensures in
    λ h. rw c.delivery_answer.ensures (looked (StoreRefused keeper s0 s1) (state_of keeper s0) (state_of keeper s1) c.args.text.now r (e.answer h)
    (state_asked keeper s0 s1 e.asks h.0)
    (risen_delivery (keeper.refusals s0) (keeper.refusals s1) r e.counted))
