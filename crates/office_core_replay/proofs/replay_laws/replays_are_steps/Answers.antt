use Rattle.std.proofs.Common.{length, subst}
use Rattle.office_mail.specs.Lists.{Lists}
use Rattle.office_mail.specs.Runs.{IsReadyCount}
use Rattle.office_core_replies.specs.Replies.{not_lost}
use Rattle.office_core_facts.specs.State.{IsOffice}
use Rattle.office_core.proofs.HistoryFacts.{came_leads, came_settled}
use Rattle.office_core_replay.proofs.replay_laws.replays_are_steps.Goals as goal

pub returns-clause-came : goal.returns-clause-came
returns-clause-came g c = λ old new deliveries keeps was is.
    let keeper = g.K.Keeper in
    came_leads (keeper.setup old) (not_lost deliveries) (keeper.content old) (keeper.content new) was.1 (subst (λ (s : Lists). IsOffice s (keeper.content new)) keeps.setup is.1) keeps.kept keeps.grows

pub returns-clause-settled : goal.returns-clause-settled
returns-clause-settled g c = λ old new deliveries keeps was is count.
    let keeper = g.K.Keeper in
    came_settled (keeper.setup old) (not_lost deliveries) (keeper.content old) (keeper.content new) was.1 (subst (λ (s : Lists). IsOffice s (keeper.content new)) keeps.setup is.1) keeps.kept keeps.grows
    (subst (λ (s : Lists). IsReadyCount s (keeper.content new).kept (length (keeper.content new).reports)) keeps.setup count)
