-- Steps beside `specs/Order.antt`.
use Rattle.std.specs.Prelude.{◌≡◌, ℕ, List}
use Rattle.std.specs.declared.cmp.Ordering.TheVariants.{Equal}
use Rattle.deb_version.specs.Order.{version_cmp}

-- the same version: equal in this order, though the texts may differ
abbrev pub SameVersion : List ℕ → List ℕ → Type 0
SameVersion a b = version_cmp a b ≡ Equal
