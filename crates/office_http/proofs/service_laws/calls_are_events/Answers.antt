use Rattle.office_http.proofs.LifeFacts.{replays, serves, stops_replaying, stops_serving}
use Rattle.office_http.proofs.service_laws.calls_are_events.Goals as goal

pub returns-clause-served : goal.returns-clause-served
returns-clause-served g c = λ old new left left' written written' code carries does. serves g.K.Keeper old new left left' written written' code carries does

pub returns-clause-cut_off : goal.returns-clause-cut_off
returns-clause-cut_off g c = λ old new left left' written written' fault carries does. stops_serving g.K.Keeper old new left left' written written' fault carries does

pub returns-clause-replayed : goal.returns-clause-replayed
returns-clause-replayed g c = λ old new start now written written' replayed carries does. replays g.K.Keeper old new start now written written' replayed carries does

pub returns-clause-replay_cut_off : goal.returns-clause-replay_cut_off
returns-clause-replay_cut_off g c = λ old new start now written written' carries does. stops_replaying g.K.Keeper old new start now written written' carries does
