use Rattle.std.proofs.Common.{◌≡◌, IfOk, subst}
use Rattle.office_store_keeper.proofs.PartFacts.{letters_between, letters_of_none}
use Rattle.office_store_keeper.proofs.memory.letters_of.Goals as goal

pub returns-then-from-to : goal.returns-then-from-to
returns-then-from-to c = letters_of_none c.args.mail.now.entries c.args.sender c.args.from c.args.to c.new.result.items c.if-from-to.true c.new.ensures.items

pub returns : goal.returns
returns c =
    subst (λ ls. IfOk c.letters_between.result (λ letters. letters.items ≡ ls))
    (letters_between c.args.sender c.args.from c.args.to c.args.mail.now.entries c.if-from-to.false c.letters_between.ensures.ordered) c.letters_between.ensures.loaded
