-- How contracts see a suite: the rows that may be in it, and which are present.
use Rattle.std.specs.Prelude.{Bool, List}
use Rattle.deb_control.specs.declared.binary.Binary.{Binary}

-- the rows that may be in a suite, and which are present
pub record SuiteState : Type 0 where
  pub rows : List Binary
  pub there : List Bool
