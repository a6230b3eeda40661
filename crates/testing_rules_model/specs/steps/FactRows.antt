-- Steps beside `specs/FactRows.antt`.
use Rattle.testing_rules_model.specs.declared.facts.UploadIn.{UploadIn}
use Rattle.testing_rules_model.specs.declared.facts.BuildIn.{BuildIn}
use Rattle.testing_rules_model.specs.declared.facts.DropIn.{DropIn}
use Rattle.testing_rules_model.specs.declared.facts.BugIn.{BugIn}
use Rattle.testing_rules_model.specs.declared.facts.HintIn.{HintIn}
use Rattle.testing_rules_model.specs.declared.facts.UnhintIn.{UnhintIn}
use Rattle.testing_rules_model.specs.declared.facts.DelaysIn.{DelaysIn}
use Rattle.testing_rules_model.specs.declared.fact_row.FactKind.TheVariants.{Source, Build, Drop, Bug, Hint, Unhint, Delays}
use Rattle.testing_rules_model.specs.declared.fact_row.FactRow.{FactRow}

-- the row of an unstable source
abbrev pub source_row : UploadIn → FactRow
source_row u = record { kind = Source; sender = u.sender; number = u.number; place = 0 }

-- the row of an unstable row, with its paragraph
abbrev pub build_row : BuildIn → FactRow
build_row b = record { kind = Build; sender = b.sender; number = b.number; place = b.place }

-- the row of a greatest drop
abbrev pub drop_row : DropIn → FactRow
drop_row d = record { kind = Drop; sender = d.sender; number = d.number; place = 0 }

-- the row of a bug's last message
abbrev pub bug_row : BugIn → FactRow
bug_row b = record { kind = Bug; sender = b.sender; number = b.number; place = 0 }

-- the row of a hint
abbrev pub hint_row : HintIn → FactRow
hint_row h = record { kind = Hint; sender = h.sender; number = h.number; place = 0 }

-- the row of an unhint
abbrev pub unhint_row : UnhintIn → FactRow
unhint_row c = record { kind = Unhint; sender = c.sender; number = c.number; place = 0 }

-- the row of the last delays
abbrev pub delays_row : DelaysIn → FactRow
delays_row d = record { kind = Delays; sender = d.sender; number = d.number; place = 0 }
