use Rattle.std.proofs.Common.{◌≡◌, ◌==◌, subst}
use Rattle.std.specs.Prelude.{◌↔◌, ⊤, IsTrue}
use Rattle.std.specs.FinMap.{len}
use Rattle.office_store_keeper.specs.MemoryState.{MemoryState, kept_in}
use Rattle.office_store_keeper.proofs.MemoryFacts.{counted}
use Rattle.office_store_keeper.proofs.memory.PlainKeeper.is_whole.Goals as goal

pub returns-clause-whole : goal.returns-clause-whole
returns-clause-whole c trusted low =
    subst (λ (s : MemoryState). IsTrue (c.count.result == c.args.texts) ↔ (⊤ × (len (kept_in s.mail) ≡ c.args.texts))) c.self.view_is
    (counted (len (kept_in c.self.inside.mail.entries)) c.args.texts c.count.result c.count.ensures)
