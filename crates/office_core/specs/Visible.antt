-- What the history of an office is about.
use Rattle.std.specs.Prelude.{List, []}
use Rattle.std.specs.FinMap.{empty}
use Rattle.office_mail.specs.Kept.{Kept}
use Rattle.office_store_keeper.specs.Content.{Content}
use Rattle.office_store_keeper.specs.declared.values.Reports.{Reports}
use Rattle.office_core_facts.specs.Outcome.{Testing, at_start}

-- what users see of an office
pub record Visible : Type 0 where
  -- the kept mail
  pub kept : Kept
  -- the two reports of each finished run, in order; their number is that of finished runs
  pub reports : List Reports
  -- testing after the last finished run
  pub testing : Testing

-- nothing is kept, and no run is finished
abbrev pub new_office : Visible
new_office = record { kept = empty; reports = []; testing = at_start.testing }

-- a store's content without the rows of facts
abbrev pub visible : Content → Visible
visible c = record { kept = c.kept; reports = c.reports; testing = c.testing }
