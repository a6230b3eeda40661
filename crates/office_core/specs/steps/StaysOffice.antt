-- What an office leaves stays so.
use Rattle.office_mail.specs.Lists.{Lists}
use Rattle.office_store_keeper.specs.declared.keeper.Keeper.{Ghosts}
use Rattle.office_core_facts.specs.State.{IsOffice}

-- a call leaves what an office with this setup leaves, if its store was legible and held that
abbrev pub StaysOffice : {K : Type 0} → Ghosts K → Lists → K → K → Type 0
StaysOffice keeper setup old new =
    keeper.is_trusted new → keeper.is_legible old → IsOffice setup (keeper.content old) → IsOffice setup (keeper.content new)
