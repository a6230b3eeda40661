use Rattle.std.proofs.Common.{sym, ◌∙◌}
use Rattle.office_store_keeper.proofs.MemoryFacts.{kept_in-len}
use Rattle.office_store_keeper.proofs.memory.count.Goals as goal

pub returns : goal.returns
returns c = c.len.ensures.len ∙ sym (kept_in-len c.args.mail.now.entries c.len.ensures.ordered)
