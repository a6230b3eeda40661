-- What one message gives, and the build that a row names.
use Rattle.std.specs.Prelude.{ℕ}
use Rattle.deb_control.specs.declared.binary.Binary.{Binary}
use Rattle.testing_rules_items.specs.declared.item.Item.TheVariants as item
use Rattle.testing_rules_fact_order.specs.declared.entry.FactUpdate.{FactUpdate}
use Rattle.testing_rules_fact_order.specs.declared.entry.FactUpdate.TheVariants.{Upload, Dropped, Build, Bug, Hint, Unhint, Delays, Nothing}
use Rattle.testing_rules_model.specs.declared.facts.BuildIn.{BuildIn}
use Rattle.testing_rules_model.specs.Covered.{CoveredItem, placed_from}

-- the message in the form that facts keep
abbrev pub entry_of : CoveredItem → FactUpdate
entry_of m = elim m.item [
  | item.Upload source version urgency day ↦ Upload (record { source = source; version = version; urgency = urgency; day = day; sender = m.sender; number = m.number })
  | item.Dropped name arch version ↦ Dropped (record { name = name; arch = arch; version = version; sender = m.sender; number = m.number })
  | item.Build binaries ↦ Build (placed_from 1 m.sender m.number binaries)
  | item.Bug bug source severity found fixed ↦ Bug (record { bug = bug; source = source; severity = severity; found = found; fixed = fixed; sender = m.sender; number = m.number })
  | item.Hint hint ↦ Hint (record { hint = hint; sender = m.sender; number = m.number })
  | item.Unhint cancels ↦ Unhint (record { cancels = cancels; sender = m.sender; number = m.number })
  | item.Delays low medium high critical ↦ Delays (record { delays = record { low = low; medium = medium; high = high; critical = critical }; sender = m.sender; number = m.number })
  | item.Nothing ↦ Nothing
]

-- the build of a binary
abbrev pub placed_at : ℕ → ℕ → Binary → ℕ → BuildIn
placed_at sender number b place = record { binary = b; sender = sender; number = number; place = place }
