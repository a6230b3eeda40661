-- Facts beside another testing.
use Rattle.std.specs.Prelude.{◌++◌, List, Contains}
use Rattle.std.proofs.Common.{inl, inr}
use Rattle.std.proofs.lemmas.List.Elements.{Contains-append_right, Contains-append_cases}
use Rattle.testing_rules_model.specs.Suite.{Suite}
use Rattle.testing_rules_model.specs.FactLists.{FactLists}
use Rattle.testing_rules_items.specs.Words.{Text}
use Rattle.testing_rules_model.specs.Covered.{Covered, CoveredItem}
use Rattle.testing_rules_model.specs.SameMessages.{SameElements, HasOneOfEach}
use Rattle.testing_rules_model.specs.StandsFor.{StandsFor}
use Rattle.testing_rules_model.proofs.Least.{from_filter, to_filter}
use Rattle.testing_rules_model.proofs.SameFacts.{stands-same}
use Rattle.testing_rules_model.specs.KeptFacts.{counts_beside, trimmed, KeptFacts}
use Rattle.testing_rules_model.specs.steps.KeptFacts.{AreFallen}
use Rattle.testing_rules_laws.specs.steps.Retaken.{AreTakenAgain}

pub trim_keeps : (f : FactLists) (s : Covered) (t : Suite) → StandsFor f s t → KeptFacts (trimmed t f) s t
trim_keeps f s t h = record {
  stand = record {
    sources = h.sources;
    rows = h.rows;
    drops = h.drops;
    bugs = h.bugs;
    hints = h.hints;
    unhints = h.unhints;
    delays = h.delays;
    are_uploads = λ u c. h.are_uploads u (from_filter (counts_beside t) f.uploads u c).0;
    counted = λ u c news. to_filter (counts_beside t) f.uploads u (h.counted u c news) news;
  };
  only = λ u c. (from_filter (counts_beside t) f.uploads u c).1;
}

-- messages of a set in front of it are the same set
front_same : (again s : Covered) → ((m : CoveredItem) → Contains again m → Contains s m) → SameElements (again ++ s) s
front_same again s within = (
  λ m c. elim (Contains-append_cases again s m c) [ inl own ↦ within m own | inr among ↦ among ],
  λ m c. Contains-append_right again s m c,
)

front_one : (again s : Covered) → ((m : CoveredItem) → Contains again m → Contains s m) → HasOneOfEach s → HasOneOfEach (again ++ s)
front_one again s within one m o c d = one m o ((front_same again s within).0 m c) ((front_same again s within).0 o d)

pub retaken_stand : (f : FactLists) (again s : Covered) (old new : Suite) (names : List Text) → HasOneOfEach s → AreFallen names old new → AreTakenAgain names again s f
    → StandsFor f (again ++ s) old → StandsFor f s new
retaken_stand f again s old new names one fallen taken h =
    let k = stands-same (again ++ s) s (front_same again s taken.within) (front_one again s taken.within one) f old h in
    record {
      sources = k.sources;
      rows = k.rows;
      drops = k.drops;
      bugs = k.bugs;
      hints = k.hints;
      unhints = k.unhints;
      delays = k.delays;
      are_uploads = k.are_uploads;
      counted = λ u c news. elim (fallen u.source u.version news) [
        | inl counted ↦ k.counted u c counted
        | inr name ↦ taken.there u (taken.all u c name)
      ];
    }
