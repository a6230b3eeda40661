-- Sets of messages, as lists in any order and with repetitions.
use Rattle.std.specs.Prelude.{◌≡◌, List, Contains}
use Rattle.testing_rules_model.specs.Suite.{Suite}
use Rattle.testing_rules_model.specs.FactLists.{FactLists}
use Rattle.testing_rules_model.specs.Covered.{Covered, CoveredItem}
use Rattle.testing_rules_model.specs.StandsFor.{StandsFor}

-- each element of one list is an element of the other
abbrev pub SameElements : {A : Type 0} → List A → List A → Type 0
SameElements {A} xs ys = ((x : A) → Contains xs x → Contains ys x) × ((x : A) → Contains ys x → Contains xs x)

-- each sender's numbers each name one message
abbrev pub HasOneOfEach : Covered → Type 0
HasOneOfEach s = (m o : CoveredItem) → Contains s m → Contains s o → m.sender ≡ o.sender → m.number ≡ o.number → m ≡ o

-- facts that stand for a set of messages stand for it in every order and with repetitions
abbrev pub FactsStandForSets : Type 0
FactsStandForSets = (f : FactLists) (s o : Covered) (t : Suite) → SameElements s o → HasOneOfEach s → StandsFor f s t → StandsFor f o t
