use Rattle.office_core_outcome.proofs.ProposalFacts.{trial_of, updates_of}
use Rattle.office_core_outcome.proofs.laws.proposals_are_trials.Goals as goal

pub returns : goal.returns
returns c = record { trial = λ setup kept k terms sources p proposed reasons are. trial_of setup kept k terms sources p reasons proposed are; updates = updates_of }
