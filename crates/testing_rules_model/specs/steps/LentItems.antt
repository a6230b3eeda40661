-- Borrowed items of a hint, borrowed excuses, and sources as they moved.
use Rattle.testing_rules_model.specs.declared.facts.UploadIn.{UploadIn}
use Rattle.testing_rules_model.specs.declared.update.Moved.{Moved}

-- a source as it moved
abbrev pub as_moved : UploadIn → Moved
as_moved u = record { name = u.source; version = u.version }
