use Rattle.office_core.specs.Preserves.{StoreRefused}
use Rattle.office_core_facts.specs.State.{state_of}
use Rattle.office_core.proofs.CarryFacts.{holds_first, holds_next, refused_first, refused_next}
use Rattle.office_core_replay.proofs.ReplayFacts.{leaves_call}
use Rattle.office_http.proofs.ServeFacts.{delivered, place_delivery}
use Rattle.office_http.proofs.serve.deliver_and_settle.Goals as goal

pub returns-clause-place : goal.returns-clause-place
returns-clause-place g c = place_delivery (g.K.Keeper.setup c.args.office.now) c.deliver-reply.result c.deliver-reply.ensures.place

pub returns-clause-runs : goal.returns-clause-runs
returns-clause-runs g c =
    let keeper = g.K.Keeper in
    let s0 = c.args.office.now in
    let s1 = c.deliver-reply.new.self in
    let s2 = c.settle_behind.new.office in
    let r = c.deliver-reply.result in
    let e = c.deliver-reply.ensures in
    let one = e.carries in
    let two = c.settle_behind.ensures.carries in
    λ h.
    let h1 = holds_first keeper s0 s1 s2 two h in
    let h2 = holds_next keeper s0 s1 s2 one two h in
    delivered (StoreRefused keeper s0 s1) (StoreRefused keeper s1 s2) (StoreRefused keeper s0 s2) (state_of keeper s0) (state_of keeper s1) (state_of keeper s2) c.args.text.now r
    (leaves_call keeper s0 s1 c.args.text.now r (e.answer h1) (e.kept h1) (e.runs.finished h1) (e.runs.err h1) one.setup e.counted) (refused_first keeper s0 s1 s2 two)
    (c.settle_behind.ensures.settles h2) (refused_next keeper s0 s1 s2 one)
