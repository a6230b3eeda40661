use Rattle.office_core_replay.proofs.replays.replay.Goals as goal

pub returns-clause-ok : goal.returns-clause-ok
returns-clause-ok g c = c.replay_watched.ensures.ok

pub returns-clause-err : goal.returns-clause-err
returns-clause-err g c = c.replay_watched.ensures.err

pub returns-clause-read : goal.returns-clause-read
returns-clause-read g c = c.replay_watched.ensures.read
