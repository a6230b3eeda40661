-- Steps beside `specs/Outcome.antt`.
use Rattle.office_store_keeper.specs.declared.values.Finished.{Finished}
use Rattle.office_core_facts.specs.Outcome.{Outcome}

-- the outcome in what a finished run leaves
abbrev pub outcome_in : Finished → Outcome
outcome_in done = record { testing = done.testing; excuses = done.excuses; updates = done.updates }
