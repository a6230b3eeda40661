-- What counts with a new testing, except for the sources that it lost or has in a lower version than before.
use Rattle.testing_rules_model.specs.Suite.{Suite}
use Rattle.testing_rules_model.specs.steps.KeptFacts.{AreFallen}
use Rattle.testing_rules_excuses.specs.Fallen.{fallen_names}

-- For each other source, what counts with the new testing counted with the old one.
abbrev pub NamesAreFallen : Type 0
NamesAreFallen = (old new : Suite) → AreFallen (fallen_names old new) old new
