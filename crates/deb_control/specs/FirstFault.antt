-- The first fault from the left of a text that spells no alternative (Debian Policy 7.1): the text before it is well
-- spelled, and another word is in the place of the next part.
use Rattle.std.specs.Prelude.{◌≡◌, ℕ, Bool, true, false, not, List, [], ◌∷◌, ◌++◌, Err, ◌↔◌, ⊤, codes}
use Rattle.std.specs.List.{list_all}
use Rattle.deb_control.specs.Text.{is_white}
use Rattle.deb_control.specs.Relations.{is_package_name, is_version, ends_name, ends_version, allows, alternative_in}
use Rattle.deb_control.specs.Spelling.{IsWhite, IsQualifier, IsSign}
use Rattle.deb_control.specs.declared.fault.RelationFault.TheVariants.{BadName, BadVersion}
use Rattle.deb_control.specs.declared.relation.Op.{Op}
use Rattle.deb_control.specs.declared.relation.Signs.{Signs}

-- a text is empty, or begins with a character that passes
abbrev pub IsStopped : (ℕ → Bool) → List ℕ → Type 0
IsStopped stops [] = ⊤
IsStopped stops (c ∷ cs) = stops c ≡ true

-- After white, a word ends at the first character of this kind, or at the end of the text.
pub record IsWord (ends : ℕ → Bool) (text word rest : List ℕ) : Type 0 where
  pub before : List ℕ
  pub written : text ≡ before ++ (word ++ rest)
  pub white : IsWhite before
  pub begins : IsStopped (λ c. not (is_white c)) (word ++ rest)
  pub runs : list_all (λ c. not (ends c)) word ≡ true
  pub stops : IsStopped ends rest

-- the word in the place of a name isn't a package name
pub record HasBadName (text : List ℕ) : Type 0 where
  pub word : List ℕ
  pub rest : List ℕ
  pub is_word : IsWord ends_name text word rest
  pub unnamed : is_package_name word ≡ false

-- the longest sign: the next character doesn't continue it
abbrev pub IsLongest : List ℕ → List ℕ → Type 0
IsLongest sign after = (c : ℕ) (more : List ℕ) (op : Op) → after ≡ c ∷ more → IsSign op (sign ++ c ∷ []) → ⊥

-- the word in the place of a version, after a sign, isn't a version
pub record HasBadVersion (signs : Signs) (text : List ℕ) : Type 0 where
  pub before : List ℕ
  pub name : List ℕ
  pub qualifier : List ℕ
  pub between : List ℕ
  pub within : List ℕ
  pub op : Op
  pub sign : List ℕ
  pub after : List ℕ
  pub word : List ℕ
  pub rest : List ℕ
  pub written : text ≡ before ++ (name ++ (qualifier ++ (between ++ (codes "(" ++ (within ++ (sign ++ after))))))
  pub whites : IsWhite before × IsWhite between × IsWhite within
  pub named : is_package_name name ≡ true
  pub qualified : IsQualifier qualifier
  pub signed : IsSign op sign
  pub longest : IsLongest sign after
  pub allowed : allows signs op ≡ true
  pub is_word : IsWord ends_version after word rest
  pub unversioned : is_version word ≡ false

-- The law: an alternative is refused for its name exactly if that is its first fault.
abbrev pub RefusesBadNames : Type 0
RefusesBadNames = (signs : Signs) (text : List ℕ) → (alternative_in signs text ≡ Err BadName) ↔ HasBadName text

-- The law: an alternative is refused for a version exactly if that is its first fault.
abbrev pub RefusesBadVersions : Type 0
RefusesBadVersions = (signs : Signs) (text : List ℕ) → (alternative_in signs text ≡ Err BadVersion) ↔ HasBadVersion signs text
