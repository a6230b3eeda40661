use Rattle.std.proofs.Common.{◌≡◌, ◌++◌, string_bytes, take}
use Rattle.std.specs.List.{flat_map}
use Rattle.office_store_tables.specs.SetupText.{spaced}
use Rattle.office_store_tables.proofs.setup_text.push_archs.Given as goal

-- the text so far
abbrev pub invariant-loop-arch : goal.invariant-loop-arch
invariant-loop-arch l = string_bytes l.text ≡ string_bytes l.fn.text ++ flat_map spaced (take l.arch-index l.archs)
