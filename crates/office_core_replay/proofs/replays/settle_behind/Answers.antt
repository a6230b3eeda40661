use Rattle.std.proofs.Common.{◌∙◌, sym}
use Rattle.office_core_replay.proofs.ReplayFacts.{settles_call}
use Rattle.office_core_replay.proofs.replays.settle_behind.Goals as goal

pub returns-then-is_ok-clause-settles : goal.returns-then-is_ok-clause-settles
returns-then-is_ok-clause-settles g c =
    let e = c.settle-settled.ensures in
    λ h. settles_call g.K.Keeper c.args.office.now c.settle-settled.new.self c.settle-settled.result _ (e.ready h) (e.finished h) (e.kept h) (e.grows h) e.changes.carries.setup (e.changes.carries.sound h.0 h.1) e.changes.counted (sym c.is_ok.ensures.value ∙ c.if-is_ok.true)
