use Rattle.std.proofs.Common.{◌≡◌, ◌+◌, length}
use Rattle.std.specs.List.{slice_split}
use Rattle.std.specs.Option.{option_map_or}
use Rattle.deb_control.specs.Results.{each_of}
use Rattle.deb_control.specs.Relations.{is_bar, alternative_in}
use Rattle.deb_control.specs.declared.relation.Signs.TheVariants.{Any}
use Rattle.deb_control.proofs.Each.{items_left, then_append}
use Rattle.deb_control.proofs.grammar.read_alternatives.Given as goal

-- the alternatives so far and those of the rest are those of all
abbrev pub invariant-parts : goal.invariant-parts
invariant-parts l = then_append l.alternatives.items (each_of (alternative_in Any) (items_left is_bar l.rest)) ≡ each_of (alternative_in Any) (slice_split is_bar l.fn.item)

abbrev pub decreases-parts : goal.decreases-parts
decreases-parts l = option_map_or (λ rest. length rest.now + 1) l.rest 0
