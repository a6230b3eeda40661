use Rattle.office_core.specs.Preserves.{StoreRefused}
use Rattle.office_core_facts.specs.State.{state_of}
use Rattle.office_core_replay.proofs.StandFacts.{grows_replay, stand_after}
use Rattle.office_core_replay.proofs.replays.replay_watched.Goals as goal

pub returns-clause-runs : goal.returns-clause-runs
returns-clause-runs g c =
    let keeper = g.K.Keeper in
    let s0 = c.args.office.now in
    let s1 = c.replay_bag.new.office in
    let written = g.W.Sink.written in
    let e = c.replay_bag.ensures in
    λ h. stand_after keeper s0 s1 e.carries h (grows_replay (state_of keeper s0) (state_of keeper s1) c.args.bag.now c.replay_bag.new.bag (written c.args.writer.now) (written c.replay_bag.new.writer) c.replay_bag.result (StoreRefused keeper s0 s1) (e.ok h) (e.err h))
