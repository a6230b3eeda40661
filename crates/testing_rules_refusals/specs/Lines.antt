-- The lines that show why a row isn't installable. This office decides their form.
use Rattle.std.specs.Prelude.{ℕ, Bool, if◌then◌else◌, List, [], ◌∷◌, ◌++◌, codes, decimal, drop, length, take}
use Rattle.std.specs.List.{flat_map}
use Rattle.std.specs.Option.{option_map_or}
use Rattle.deb_control.specs.declared.relation.Alternative.{Alternative}
use Rattle.deb_control.specs.declared.relation.Clause.{Clause}
use Rattle.deb_control.specs.declared.relation.Relation.{Relation}
use Rattle.deb_control.specs.declared.relation.Op.{Op}
use Rattle.deb_control.specs.declared.relation.Op.TheVariants.{Below, AtMost, Equal, AtLeast, Above}
use Rattle.testing_rules_items.specs.Words.{Text}
use Rattle.testing_rules_model.specs.declared.suite.RowIn.{RowIn}
use Rattle.testing_rules_refusals.specs.Needs.{RowNeed}

-- the sign of a relation (Debian Policy 7.1)
abbrev pub sign : Op → Text
sign Below = codes "<<"
sign AtMost = codes "<="
sign Equal = codes "="
sign AtLeast = codes ">="
sign Above = codes ">>"

-- a relation, in parentheses (Debian Policy 7.1)
abbrev pub relation_text : Relation → Text
relation_text r = codes " (" ++ sign r.op ++ 32 ∷ r.version ++ codes ")"

-- a package, and its relation if there is one (Debian Policy 7.1)
abbrev pub alternative_text : Alternative → Text
alternative_text a = a.name ++ option_map_or relation_text a.relation []

-- an alternative after another
abbrev pub other_text : Alternative → Text
other_text a = codes " | " ++ alternative_text a

-- alternatives, separated by bars (Debian Policy 7.1)
abbrev pub clause_text : Clause → Text
clause_text [] = []
clause_text (a ∷ others) = alternative_text a ++ flat_map other_text others

-- a number after another
abbrev pub more_text : ℕ → Text
more_text n = codes " and " ++ decimal n

-- numbers one after another, or a word if there are none
abbrev pub joined_text : List ℕ → Text
joined_text [] = codes "nothing"
joined_text (n ∷ ns) = decimal n ++ flat_map more_text ns

-- how many numbers are left out, if any (this office decides it)
abbrev pub untold_text : List ℕ → Text
untold_text [] = []
untold_text (n ∷ ns) = codes " and " ++ decimal (length (n ∷ ns)) ++ codes " more"

-- the numbers of lines, or a word if there are none: the first twelve, and how many more exist (this office decides it)
abbrev pub numbers_text : List ℕ → Text
numbers_text numbers = joined_text (take 12 numbers) ++ untold_text (drop 12 numbers)

-- a package, its version and its source
abbrev pub package_text : RowIn → Text
package_text r = r.binary.name ++ 32 ∷ r.binary.version ++ codes " of " ++ r.binary.source

-- whether the row comes in
abbrev pub place_text : Bool → Text
place_text comes = if comes then codes " comes in, needs " else codes " in testing, needs "

-- the line with this number: a row, coming or not, and its clause, with the numbers of the lines whose rows meet it
abbrev pub need_line : Bool → ℕ → RowNeed → List ℕ → Text
need_line comes number n numbers =
    decimal number ++ 32 ∷ package_text n.row ++ place_text comes ++ clause_text n.clause ++ codes ": " ++ numbers_text numbers ++ 10 ∷ []

-- a row that leaves
abbrev pub leaves_line : RowIn → Text
leaves_line r = codes "leaves " ++ r.binary.name ++ 32 ∷ r.binary.version ++ 10 ∷ []
