-- A run whose hints are judged, as the code has it.
use Rattle.std.specs.Prelude.{◌≡◌, ℕ, Bool, true, false, List, []}
use Rattle.testing_rules_model.specs.Unstable.{built_rows}
use Rattle.testing_rules_model.specs.declared.update.Decision.{Decision}
use Rattle.office_core_outcome.specs.declared.refused_hints.Judging.{Judging}
use Rattle.office_core_outcome.specs.WhyRefused.{IsToldOf, Judged}

abbrev pub judged_in : Judging → Judged
judged_in j = record {
  sender = j.sender.now;
  behind = j.behind;
  archs = j.archs.now;
  sources = j.facts.now.sources;
  rows = built_rows j.archs.now j.facts.now.rows;
  excuses = j.excuses.now;
  hints = j.facts.now.hints;
  unhints = j.facts.now.unhints;
  testing = j.testing.now;
}

-- the text on a decision, if that is asked for
abbrev pub IsToldWhere : Bool → Judged → Decision → List ℕ → Type 0
IsToldWhere true j d text = IsToldOf j d text
IsToldWhere false j d text = text ≡ []
