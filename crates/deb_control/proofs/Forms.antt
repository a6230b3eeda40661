-- Versions, relations, alternatives and sources by the tests of their parts.
use Rattle.std.proofs.Common.{◌≡◌, ℕ, Bool, true, false, cond, List, drop, Option, Some, None, Result, Ok, Err, refl, ap, ◌∙◌, eqb}
use Rattle.std.specs.List.{list_all, position_or_len, before_first}
use Rattle.std.specs.Option.{option_map_or}
use Rattle.deb_control.specs.Results.{◌>>=◌, given, needs}
use Rattle.deb_control.specs.Text.{is_white}
use Rattle.deb_control.specs.Relations.{is_package_name, is_version, skip_white, word_in, after_char, ends_name, ends_version, after_qualifier, sign_in, allows, version_in, relation_in, alternative_in}
use Rattle.deb_control.specs.Binary.{source_in}
use Rattle.deb_control.specs.declared.fault.RelationFault.{RelationFault}
use Rattle.deb_control.specs.declared.fault.RelationFault.TheVariants.{BadName, BadVersion, BadRelation}
use Rattle.deb_control.specs.declared.relation.Op.{Op}
use Rattle.deb_control.specs.declared.relation.Signs.{Signs}
use Rattle.deb_control.specs.declared.relation.Relation.{Relation}
use Rattle.deb_control.specs.declared.relation.Alternative.{Alternative}

-- a condition that must be met first
tested : {A E : Type 0} (b : Bool) (r : Result A E) (e : E) → (needs b e >>= λ met. r) ≡ cond b r (Err e)
tested true r e = refl
tested false r e = refl

-- `)` and the end, with white before each
abbrev pub closes : Option (List ℕ) → Bool
closes found = option_map_or (list_all is_white) found false

-- a version, and the rest, which must be `)` and the end
abbrev pub version_then : List ℕ → List ℕ → Result (List ℕ) RelationFault
version_then version rest =
    cond (is_version version) (cond (closes (after_char 41 (skip_white rest))) (Ok version) (Err BadRelation)) (Err BadVersion)

version_ends : (found : Option (List ℕ)) (word : List ℕ)
    → (given found BadRelation >>= λ end. needs (list_all is_white end) BadRelation >>= λ met. Ok word) ≡ cond (closes found) (Ok word) (Err BadRelation)
version_ends None word = refl
version_ends (Some end) word = tested (list_all is_white end) (Ok word) BadRelation

pub version_is : (text : List ℕ) → version_in text ≡ version_then (before_first ends_version (skip_white text)) (drop (position_or_len ends_version (skip_white text)) (skip_white text))
unfolding version_in
version_is text =
    let word : List ℕ × List ℕ = word_in ends_version text in
    let found : Option (List ℕ) = after_char 41 (skip_white word.1) in
    tested (is_version word.0) (given found BadRelation >>= λ end. needs (list_all is_white end) BadRelation >>= λ met. Ok word.0) BadVersion
    ∙ ap (λ (r : Result (List ℕ) RelationFault). cond (is_version word.0) r (Err BadVersion)) (version_ends found word.0)

-- the rest after a run of n characters, which must not be empty
abbrev pub after_run_of_one : List ℕ → ℕ → Result (List ℕ) RelationFault
after_run_of_one text n = cond (eqb n 0) (Err BadRelation) (Ok (drop n text))

-- the relation with this sign, if the sign is allowed
abbrev pub relation_of : Signs → Option (Op × List ℕ) → Result (Option Relation) RelationFault
relation_of signs None = Err BadRelation
relation_of signs (Some sign) =
    cond (allows signs sign.0) (version_in sign.1 >>= λ version. Ok (Some (record { op = sign.0; version = version }))) (Err BadRelation)

-- the relation after a mandatory `(`
abbrev pub within_parentheses : Signs → Option (List ℕ) → Result (Option Relation) RelationFault
within_parentheses signs None = Err BadRelation
within_parentheses signs (Some inside) = relation_of signs (sign_in (skip_white inside))

abbrev of_sign : Signs → Op × List ℕ → Result (Option Relation) RelationFault
of_sign signs sign = needs (allows signs sign.0) BadRelation >>= λ met. version_in sign.1 >>= λ version. Ok (Some (record { op = sign.0; version = version }))

sign_then : (signs : Signs) (found : Option (Op × List ℕ)) → (given found BadRelation >>= of_sign signs) ≡ relation_of signs found
sign_then signs None = refl
sign_then signs (Some sign) = tested (allows signs sign.0) (version_in sign.1 >>= λ version. Ok (Some (record { op = sign.0; version = version }))) BadRelation

inside_then : (signs : Signs) (found : Option (List ℕ)) → (given found BadRelation >>= λ inside. given (sign_in (skip_white inside)) BadRelation >>= of_sign signs) ≡ within_parentheses signs found
inside_then signs None = refl
inside_then signs (Some inside) = sign_then signs (sign_in (skip_white inside))

pub relation_is : (signs : Signs) (text : List ℕ) → relation_in signs text ≡ cond (list_all is_white text) (Ok None) (within_parentheses signs (after_char 40 (skip_white text)))
unfolding relation_in
relation_is signs text = ap (λ (r : Result (Option Relation) RelationFault). cond (list_all is_white text) (Ok None) r) (inside_then signs (after_char 40 (skip_white text)))

-- an alternative with this name, and the text after the name
abbrev pub named : Signs → List ℕ → List ℕ → Result Alternative RelationFault
named signs name rest =
    cond (is_package_name name) (after_qualifier rest >>= λ more. relation_in signs more >>= λ relation. Ok (record { name = name; relation = relation })) (Err BadName)

pub alternative_is : (signs : Signs) (text : List ℕ) → alternative_in signs text ≡ named signs (before_first ends_name (skip_white text)) (drop (position_or_len ends_name (skip_white text)) (skip_white text))
unfolding alternative_in
alternative_is signs text =
    let word : List ℕ × List ℕ = word_in ends_name text in
    tested (is_package_name word.0) (after_qualifier word.1 >>= λ more. relation_in signs more >>= λ relation. Ok (record { name = word.0; relation = relation })) BadName

-- the version of a source, after a mandatory `(`
abbrev pub source_version : Option (List ℕ) → Result (List ℕ) RelationFault
source_version None = Err BadRelation
source_version (Some inside) = version_in inside

-- a source with this name, and the text after it
abbrev pub after_source : List ℕ → List ℕ → List ℕ → Result (List ℕ × List ℕ) RelationFault
after_source version name rest =
    cond (is_package_name name)
    (cond (list_all is_white rest) (Ok (name, version)) (source_version (after_char 40 (skip_white rest)) >>= λ v. Ok (name, v)))
    (Err BadName)

opened_then : (name : List ℕ) (found : Option (List ℕ)) → ◌≡◌ {A = Result (List ℕ × List ℕ) RelationFault} (given found BadRelation >>= λ inside. version_in inside >>= λ v. Ok (name, v)) (source_version found >>= λ v. Ok (name, v))
opened_then name None = refl
opened_then name (Some inside) = refl

pub source_is : (version text : List ℕ) → source_in version text ≡ after_source version (before_first ends_name (skip_white text)) (drop (position_or_len ends_name (skip_white text)) (skip_white text))
unfolding source_in
source_is version text =
    let word : List ℕ × List ℕ = word_in ends_name text in
    let found : Option (List ℕ) = after_char 40 (skip_white word.1) in
    tested (is_package_name word.0) (cond (list_all is_white word.1) (Ok (word.0, version)) (given found BadRelation >>= λ inside. version_in inside >>= λ v. Ok (word.0, v))) BadName
    ∙ ap (λ (r : Result (List ℕ × List ℕ) RelationFault). cond (is_package_name word.0) (cond (list_all is_white word.1) (Ok (word.0, version)) r) (Err BadName)) (opened_then word.0 found)
