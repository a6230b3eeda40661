-- The order of versions, by their texts. (Debian Policy 5.6.12)
use Rattle.std.specs.Prelude.{◌≡◌, ℕ, List, Result, Ok, Err}
use Rattle.std.specs.Option.{option_map_or}
use Rattle.std.specs.declared.cmp.Ordering.{Ordering}
use Rattle.std.specs.declared.cmp.Ordering.TheVariants.{Less, Greater}
use Rattle.std.specs.Ordering.{ordering_then, nat_cmp}
use Rattle.deb_version.specs.Key.{part_cmp}
use Rattle.deb_version.specs.Text.{epoch_of, upstream_of, revision_of, version_fault}
use Rattle.deb_version.specs.declared.faults.CompareFault.{CompareFault}
use Rattle.deb_version.specs.declared.faults.CompareFault.TheVariants.{First, Second}

-- epochs are compared first, as numbers, then upstream versions, then revisions
unfoldable pub version_cmp : List ℕ → List ℕ → Ordering
version_cmp a b =
    ordering_then (nat_cmp (epoch_of a) (epoch_of b))
    (ordering_then (part_cmp (upstream_of a) (upstream_of b)) (part_cmp (revision_of a) (revision_of b)))

-- a is below b
abbrev pub IsBelow : List ℕ → List ℕ → Type 0
IsBelow a b = version_cmp a b ≡ Less

-- a is above b
abbrev pub IsAbove : List ℕ → List ℕ → Type 0
IsAbove a b = version_cmp a b ≡ Greater

-- the result of comparing two texts: their order if both are versions, else the first text that isn't, with its first
-- fault
abbrev pub text_cmp : List ℕ → List ℕ → Result Ordering CompareFault
text_cmp a b =
    option_map_or (λ fault. Err (First fault)) (version_fault a)
    (option_map_or (λ fault. Err (Second fault)) (version_fault b) (Ok (version_cmp a b)))
