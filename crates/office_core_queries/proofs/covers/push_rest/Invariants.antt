use Rattle.std.proofs.Common.{◌≡◌, ◌++◌, codes, string_bytes, take}
use Rattle.std.specs.List.{flat_map}
use Rattle.office_core_queries.specs.Listing.{stated_words}
use Rattle.office_core_queries.proofs.covers.push_rest.Given as goal

-- the text so far
abbrev pub invariant-loop-stated : goal.invariant-loop-stated
invariant-loop-stated l = string_bytes l.text ≡ string_bytes l.fn.text ++ flat_map (λ s. codes ", " ++ stated_words l.setup s) (take l.stated-index l.rest)
