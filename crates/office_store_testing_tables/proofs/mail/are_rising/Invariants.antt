use Rattle.std.proofs.Common.{◌≡◌, drop}
use Rattle.office_store_testing_tables.specs.steps.TableSteps.{rises_from}
use Rattle.office_store_testing_tables.proofs.mail.are_rising.Given as goal

-- whether the letters that are left rise from there on, is whether all do
abbrev pub invariant-letters : goal.invariant-letters
invariant-letters l = record { left : rises_from l.least (drop l.letter-index l.letters) ≡ rises_from 0 l.letters }
