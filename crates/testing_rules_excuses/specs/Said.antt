-- What a run knows about one source besides its unstable upload, in the words of the excuses (Debian Developer's
-- Reference 5.13.2).
use Rattle.std.specs.Prelude.{List, Option}
use Rattle.testing_rules_items.specs.Words.{Text}
use Rattle.testing_rules_model.specs.declared.facts.BugIn.{BugIn}
use Rattle.testing_rules_model.specs.declared.facts.HintIn.{HintIn}
use Rattle.testing_rules_model.specs.declared.suite.RowIn.{RowIn}

-- rows of unstable, states of bugs, hints in force, and the source's version in testing
pub record SaidLists : Type 0 where
  pub rows : List RowIn
  pub bugs : List BugIn
  pub hints : List HintIn
  pub testing : Option Text
