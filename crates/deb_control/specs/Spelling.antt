-- How relations and sources are written, part by part: alternatives, clauses, provisions and sources (Debian Policy
-- 5.6.1, 7.1, 7.2 and 7.5). The definitions of Relations and Binary read a text from the left, to find its first fault.
-- The laws say that both agree.
use Rattle.std.specs.Prelude.{◌≡◌, ℕ, true, List, [], ◌∷◌, ◌++◌, Option, Some, None, Ok, ◌⊎◌, ◌↔◌, ⊤, codes}
use Rattle.std.specs.List.{list_all, slice_split, AllZip, IsAmong}
use Rattle.std.specs.Option.{option_map}
use Rattle.deb_version.specs.Characters.{char}
use Rattle.deb_control.specs.Text.{is_white}
use Rattle.deb_control.specs.Paragraphs.{not_empty}
use Rattle.deb_control.specs.Relations.{is_package_name, is_version, is_qualifier_char, known_signs, allows, is_bar, items, clauses_in, provisions_in}
use Rattle.deb_control.specs.Binary.{source_in}
use Rattle.deb_control.specs.declared.relation.Op.{Op}
use Rattle.deb_control.specs.declared.relation.Op.TheVariants.{Equal}
use Rattle.deb_control.specs.declared.relation.Signs.{Signs}
use Rattle.deb_control.specs.declared.relation.Signs.TheVariants.{Any, EqualAlone}
use Rattle.deb_control.specs.declared.relation.Relation.{Relation}
use Rattle.deb_control.specs.declared.relation.Alternative.{Alternative}
use Rattle.deb_control.specs.declared.relation.Provision.{Provision}

-- white or empty
abbrev pub IsWhite : List ℕ → Type 0
IsWhite text = list_all is_white text ≡ true

-- the qualifier of a name, like `:any`, or empty
abbrev pub IsQualifier : List ℕ → Type 0
IsQualifier [] = ⊤
IsQualifier (c ∷ word) = (c ≡ char ":") × (not_empty word ≡ true) × (list_all is_qualifier_char word ≡ true)

-- a sign with this meaning
abbrev pub IsSign : Op → List ℕ → Type 0
IsSign op sign = IsAmong known_signs (sign, op)

-- A text spells a relation: `(`, a sign, a version and `)`, with white before and after each, or none.
pub record SpellsRelation (signs : Signs) (text : List ℕ) (relation : Relation) : Type 0 where
  pub before : List ℕ
  pub within : List ℕ
  pub sign : List ℕ
  pub between : List ℕ
  pub behind : List ℕ
  pub after : List ℕ
  pub written : text ≡ before ++ (codes "(" ++ (within ++ (sign ++ (between ++ (relation.version ++ (behind ++ (codes ")" ++ after)))))))
  pub whites : IsWhite before × IsWhite within × IsWhite between × IsWhite behind × IsWhite after
  pub signed : IsSign relation.op sign
  pub allowed : allows signs relation.op ≡ true
  pub versioned : is_version relation.version ≡ true

-- the text after a name: white, or a relation
abbrev pub SpellsRest : Signs → List ℕ → Option Relation → Type 0
SpellsRest signs text None = IsWhite text
SpellsRest signs text (Some relation) = SpellsRelation signs text relation

-- A text spells an alternative: optional white, a package name, an optional qualifier, then white or a relation.
pub record SpellsAlternative (signs : Signs) (text : List ℕ) (alternative : Alternative) : Type 0 where
  pub before : List ℕ
  pub qualifier : List ℕ
  pub rest : List ℕ
  pub written : text ≡ before ++ (alternative.name ++ (qualifier ++ rest))
  pub white : IsWhite before
  pub named : is_package_name alternative.name ≡ true
  pub qualified : IsQualifier qualifier
  pub ended : SpellsRest signs rest alternative.relation

-- a text spells a clause: its alternatives are the parts between the `|`
abbrev pub SpellsClause : List ℕ → List Alternative → Type 0
SpellsClause text clause = AllZip (SpellsAlternative Any) (slice_split is_bar text) clause

-- the alternative with the spelling of a provision
abbrev pub as_alternative : Provision → Alternative
as_alternative p = record { name = p.name; relation = option_map (λ (v : List ℕ). record { op = Equal; version = v }) p.version }

-- a text spells a provision: it spells an alternative in which only `=` is allowed
abbrev pub SpellsProvision : List ℕ → Provision → Type 0
SpellsProvision text provision = SpellsAlternative EqualAlone text (as_alternative provision)

-- The law: a text is read as clauses exactly if its items spell them.
abbrev pub ReadsSpelledClauses : Type 0
ReadsSpelledClauses = (text : List ℕ) (clauses : List (List Alternative)) → (clauses_in text ≡ Ok clauses) ↔ AllZip SpellsClause (items text) clauses

-- The law: a text is read as provisions exactly if its items spell them.
abbrev pub ReadsSpelledProvisions : Type 0
ReadsSpelledProvisions = (text : List ℕ) (provisions : List Provision) → (provisions_in text ≡ Ok provisions) ↔ AllZip SpellsProvision (items text) provisions

-- A text spells the version of a source: `(`, a version and `)`, with white before and after each, or none.
pub record SpellsVersion (text version : List ℕ) : Type 0 where
  pub before : List ℕ
  pub within : List ℕ
  pub behind : List ℕ
  pub after : List ℕ
  pub written : text ≡ before ++ (codes "(" ++ (within ++ (version ++ (behind ++ (codes ")" ++ after)))))
  pub whites : IsWhite before × IsWhite within × IsWhite behind × IsWhite after
  pub versioned : is_version version ≡ true

-- A text spells a source (its name and version) for a binary of this version: optional white, a package name, then a
-- version, or white if the source has the binary's version (Debian Policy 5.6.1).
pub record SpellsSource (binary text : List ℕ) (source : List ℕ × List ℕ) : Type 0 where
  pub before : List ℕ
  pub rest : List ℕ
  pub written : text ≡ before ++ (source.0 ++ rest)
  pub white : IsWhite before
  pub named : is_package_name source.0 ≡ true
  pub ended : (IsWhite rest × (source.1 ≡ binary)) ⊎ SpellsVersion rest source.1

-- The law: a text is read as a source exactly if it spells it.
abbrev pub ReadsSpelledSources : Type 0
ReadsSpelledSources = (binary text : List ℕ) (source : List ℕ × List ℕ) → (source_in binary text ≡ Ok source) ↔ SpellsSource binary text source
