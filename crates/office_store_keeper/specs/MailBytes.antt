-- How contracts see a text that came by mail.
use Rattle.std.specs.Prelude.{List, ℕ}
use Rattle.office_store_keeper.specs.declared.values.Bytes.{Bytes}
use Rattle.office_store_keeper.specs.declared.values.Bytes.TheVariants.{Own, Shared}

-- its bytes
abbrev pub bytes_of : Bytes → List ℕ
bytes_of (Own bytes) = bytes.items
bytes_of (Shared bytes) = bytes.value.items
