-- How contracts see a clause.
use Rattle.std.specs.Prelude.{List, [], ◌∷◌}
use Rattle.deb_control.specs.declared.relation.Alternative.{Alternative}
use Rattle.deb_control.specs.declared.relation.Alternatives.{Alternatives}
use Rattle.deb_control.specs.declared.relation.Alternatives.TheVariants.{One, Several}

-- the alternatives
abbrev pub alternatives_of : Alternatives → List Alternative
alternatives_of (One alternative) = alternative ∷ []
alternatives_of (Several alternatives) = alternatives.items
