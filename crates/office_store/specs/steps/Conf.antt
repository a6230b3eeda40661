-- Steps beside `specs/Conf.antt`.
use Rattle.std.specs.Prelude.{ℕ, List, take}

-- at most one byte more than the longest setup is read from a file
unfoldable pub front : List ℕ → List ℕ
front bytes = take 65_537 bytes
