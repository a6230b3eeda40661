-- Facts that have the same rows. That facts are kept as rows is this office's own.
use Rattle.testing_rules_model.specs.FactLists.{FactLists}
use Rattle.testing_rules_model.specs.Suite.{Suite}
use Rattle.testing_rules_model.specs.Covered.{Covered}
use Rattle.testing_rules_model.specs.SameMessages.{SameElements, HasOneOfEach}
use Rattle.testing_rules_model.specs.StandsFor.{StandsFor}
use Rattle.testing_rules_model.specs.FactRows.{rows_of}
pub use Rattle.testing_rules_model.specs.Tells.{AreSaidBy, AreOrderly, Tells}

-- If facts stand for a set, other facts with their rows, said by the set's messages, stand for it too.
abbrev pub RowsTell : Type 0
RowsTell =
    (f g : FactLists) (s : Covered) (t : Suite) → HasOneOfEach s → StandsFor f s t → AreSaidBy g s → AreOrderly g → SameElements (rows_of f) (rows_of g)
    → StandsFor g s t

-- If facts stand for a set, its messages say them, and they are in order.
abbrev pub StandsAreSaid : Type 0
StandsAreSaid = (f : FactLists) (s : Covered) (t : Suite) → StandsFor f s t → AreSaidBy f s × AreOrderly f
