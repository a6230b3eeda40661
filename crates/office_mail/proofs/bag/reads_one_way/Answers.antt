use Rattle.office_mail.proofs.BagLaw.{reads_one_way}
use Rattle.office_mail.proofs.bag.reads_one_way.Goals as goal

pub returns : goal.returns
returns c = reads_one_way
