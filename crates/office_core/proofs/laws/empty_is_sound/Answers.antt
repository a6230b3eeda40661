use Rattle.std.proofs.Common.{sym, subst}
use Rattle.office_core_facts.specs.State.{IsOffice}
use Rattle.office_core.proofs.OfficeFacts.{IsOffice-new}
use Rattle.office_core.proofs.laws.empty_is_sound.Goals as goal

pub returns : goal.returns
returns g c = λ store legible none. (legible, subst (IsOffice (g.K.Keeper.setup store)) (sym none) (IsOffice-new (g.K.Keeper.setup store)))
