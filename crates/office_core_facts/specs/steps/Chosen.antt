-- What a walk over kept mail does to facts, by the choice of what it takes.
use Rattle.std.specs.Prelude.{◌≡◌, ℕ, Bool, List, ◌++◌, Option, Some, Contains, IsTrue}
use Rattle.testing_rules_model.specs.declared.facts.UploadIn.{UploadIn}
use Rattle.testing_rules_model.specs.Covered.{Covered, CoveredItem, upload_of}
use Rattle.testing_rules_model.specs.FactLists.{FactLists}
use Rattle.testing_rules_model.specs.StandsFor.{StandsFor}
use Rattle.testing_rules_model.specs.Suite.{Suite}
use Rattle.office_mail.specs.Lists.{Lists}
use Rattle.office_store_keeper.specs.Content.{Content}
use Rattle.office_store_keeper.specs.declared.values.Letter.{Letter}
use Rattle.office_core_facts.specs.declared.choice.Choice.{Choice}
use Rattle.office_core_facts.specs.declared.choice.Choice.TheVariants.{All, UploadsOf}
use Rattle.office_core_facts.specs.Known.{AreUnderWay}
use Rattle.office_core_facts.specs.steps.Taking.{AreLettersOf, TookAgain}
use Rattle.office_core_facts.specs.steps.Walk.{said_by, said_in}

-- The test of a message by what it says. It passes if all messages are chosen, or if it uploads a chosen source; others
-- may pass, too.
abbrev pub IsChosen : Choice → Option CoveredItem → Bool → Type 0
IsChosen All says chosen = IsTrue chosen
IsChosen (UploadsOf names) says chosen = (m : CoveredItem) (u : UploadIn) → says ≡ Some m → upload_of m ≡ Some u → Contains names.now u.source → IsTrue chosen

-- The facts took what is chosen of these messages: they stand for all of them over testing `t`, or since the facts were
-- `first` they took the uploads of the names again.
abbrev pub AreTaken : Choice → Suite → FactLists → Covered → FactLists → Type 0
AreTaken All t first s f = StandsFor f s t
AreTaken (UploadsOf names) t first s f = TookAgain names.now s first f

-- what is chosen of these letters of a sender was taken
pub record TookLetters (choice : Choice) (setup : Lists) (sender : ℕ) (letters : List Letter) (old new : FactLists) : Type 0 where
  pub taken : (t : Suite) (first : FactLists) (s : Covered) → AreTaken choice t first s old → AreTaken choice t first (said_in setup sender letters s) new
  pub way : (content : Content) → AreLettersOf content.kept sender letters → AreUnderWay setup content old → AreUnderWay setup content new

-- what is chosen of a sender's messages behind a number, up to another, was taken
pub record TookStretch (choice : Choice) (setup : Lists) (content : Content) (sender done end : ℕ) (old new : FactLists) : Type 0 where
  pub taken : (t : Suite) (first : FactLists) (s : Covered) → AreTaken choice t first (said_by setup content.kept sender done ++ s) old → AreTaken choice t first (said_by setup content.kept sender end ++ s) new
  pub way : AreUnderWay setup content old → AreUnderWay setup content new
