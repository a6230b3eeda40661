use Rattle.std.proofs.Common.{Some, sym, ap, ◌∙◌}
use Rattle.office_store_keeper.proofs.MemoryFacts.{get-kept_in}
use Rattle.office_store_keeper.proofs.memory.share_text.Goals as goal

pub returns-in-None : goal.returns-in-None
returns-in-None c = c.in-None.ensures.value ∙ sym (get-kept_in c.args.mail.now.entries (c.args.sender, c.args.number))

pub returns-in_ok-share-in-Some : goal.returns-in_ok-share-in-Some
returns-in_ok-share-in-Some c =
    ap Some c.in_ok-share-in-Some.ensures ∙ c.in-Some.ensures.value ∙ sym (get-kept_in c.args.mail.now.entries (c.args.sender, c.args.number))
