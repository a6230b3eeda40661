-- Steps beside `specs/Origins.antt`.
use Rattle.testing_rules_model.specs.JudgedRows.{row_of}
use Rattle.testing_rules_excuses.specs.declared.messages.Origin.{Origin}
use Rattle.testing_rules_excuses.specs.declared.messages.Origin.TheVariants.{Bug, Row, Block, Removal}
use Rattle.testing_rules_excuses.specs.Origins.{OriginIn, FromBug, FromRow, FromBlock, FromRemoval}

-- the origin in the code's type
abbrev pub origin_of : Origin → OriginIn
origin_of (Bug b) = FromBug b.now
origin_of (Row r) = FromRow (row_of r)
origin_of (Block h) = FromBlock h.now
origin_of (Removal h) = FromRemoval h.now
