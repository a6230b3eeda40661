use Rattle.office_mail.proofs.LawFacts.{same_kept_from, kept_at_place, can_take}
use Rattle.office_mail.proofs.laws.same_set.Goals as goal

pub returns-clause-same : goal.returns-clause-same
returns-clause-same c = same_kept_from

pub returns-clause-kept : goal.returns-clause-kept
returns-clause-kept c = kept_at_place

pub returns-clause-reply : goal.returns-clause-reply
returns-clause-reply c = can_take
