-- Uploads that an excuse borrows from facts.
use Rattle.std.specs.Prelude.{List, map}
use Rattle.std.specs.Borrow.{Bor}
use Rattle.testing_rules_model.specs.declared.facts.UploadIn.{UploadIn}

-- the borrowed uploads
abbrev pub uploads_lent : List (Bor UploadIn) → List UploadIn
uploads_lent uploads = map (λ u. u.now) uploads
