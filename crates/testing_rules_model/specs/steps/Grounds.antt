-- Excuses on facts that are computed once for all sources. On those of the covered messages they are the run's, by
-- computing.
use Rattle.std.specs.Prelude.{ℕ, nat_lt, List, map, filter, Option}
use Rattle.jiff_core.specs.declared.civil.date.Date.{Date}
use Rattle.testing_rules_model.specs.declared.facts.UploadIn.{UploadIn}
use Rattle.testing_rules_model.specs.declared.facts.BugIn.{BugIn}
use Rattle.testing_rules_model.specs.declared.facts.HintIn.{HintIn}
use Rattle.testing_rules_model.specs.declared.facts.Delays.{Delays}
use Rattle.testing_rules_model.specs.declared.suite.RowIn.{RowIn}
use Rattle.testing_rules_model.specs.declared.excuse.Excuse.{Excuse}
use Rattle.testing_rules_model.specs.Suite.{Suite}
use Rattle.testing_rules_items.specs.Words.{Text}
use Rattle.testing_rules_model.specs.Covered.{Covered, uploads_in}
use Rattle.testing_rules_model.specs.Unstable.{unstable_rows, bug_states, in_force, last_delays}
use Rattle.testing_rules_model.specs.Excuses.{testing_version, is_news, delays_in_force, days_needed, age_of, reasons_of}

-- the input of a run's excuses apart from testing: unstable's rows, the states of bugs, the hints in force, the
-- uploads, the delays and the date
pub record Ground : Type 0 where
  pub rows : List RowIn
  pub bugs : List BugIn
  pub hints : List HintIn
  pub uploads : List UploadIn
  pub delays : Delays
  pub date : Date

-- the excuse of an unstable source
abbrev pub excuse_on : List ℕ → Ground → Option Text → UploadIn → Excuse
excuse_on places g testing u =
    let needed = days_needed g.delays g.hints g.uploads testing u in
    record {
      source = u.source;
      testing = testing;
      unstable = u.version;
      age = age_of g.date u;
      needed = needed;
      reasons = reasons_of places g.rows g.bugs g.hints testing (nat_lt (age_of g.date u) needed) u;
    }

-- an excuse for each source that is above testing's version or isn't in testing
abbrev pub excuses_on : List ℕ → Ground → Suite → List UploadIn → List Excuse
excuses_on places g t sources =
    map (λ u. excuse_on places g (testing_version t u.source) u) (filter (λ u. is_news (testing_version t u.source) u.version) sources)

-- that input from the covered messages
abbrev pub ground_of : List Text → Covered → Date → Ground
ground_of archs s date = record {
  rows = unstable_rows archs s;
  bugs = bug_states s;
  hints = in_force s;
  uploads = uploads_in s;
  delays = delays_in_force (last_delays s);
  date = date;
}
