-- The setup of an office: the content of a setup's text, or its first fault.
use Rattle.std.specs.Prelude.{ℕ, ◌+◌, ◌≡◌, ◌≤◌, Bool, true, false, ◌&&◌, ◌==◌, nat_le, if◌then◌else◌, List, [], ◌∷◌, length, map, codes, Option, Result, Ok}
use Rattle.std.specs.List.{list_all, count_by, find}
use Rattle.std.specs.Str.{bytes_eq}
use Rattle.deb_version.specs.Characters.{char}
use Rattle.deb_control.specs.Paragraphs.{reading, value_of}
use Rattle.deb_control.specs.Relations.{◌>>=◌, is_qualifier_char}
use Rattle.office_mail_setup.specs.declared.setup.Sender.{Sender}
use Rattle.office_mail_setup.specs.declared.setup.Role.{Role}
use Rattle.office_mail_setup.specs.declared.setup.Role.TheVariants.{Upload, Build, Bugs, Release, Runs}
use Rattle.office_mail_setup.specs.declared.setup.SetupField.{SetupField}
use Rattle.office_mail_setup.specs.declared.setup.SetupField.TheVariants as field
use Rattle.office_mail_setup.specs.declared.setup.SetupFault.{SetupFault}
use Rattle.office_mail_setup.specs.declared.setup.SetupFault.TheVariants.{BadParagraph, MissingField, BadArchitecture, BadSender, BadRoles, TooMany}
use Rattle.office_mail_setup.specs.Lists.{Lists}
use Rattle.office_mail_setup.specs.WholeText.{Paragraph, needs, given, each_of, whole, first_of, rest_of}
use Rattle.office_mail_setup.specs.Values.{words}
use Rattle.testing_rules_items.specs.Archs.{are_archs, IsArchs}
use Rattle.testing_rules_items.specs.Distinct.{is_distinct}
use Rattle.testing_rules_items.specs.Words.{most_archs}

-- the spelling of a field
abbrev pub setup_field_name : SetupField → List ℕ
setup_field_name field.Architectures = codes "Architectures"
setup_field_name field.Sender = codes "Sender"
setup_field_name field.Role = codes "Role"

-- the value of a field, or the fault that it is missing
unfoldable pub stated : Paragraph → SetupField → Result (List ℕ) SetupFault
stated p f = given (value_of p (setup_field_name f)) (MissingField f)

-- a sender's name: 1 to 32 lower case letters, digits and hyphens, beginning with a letter
unfoldable pub is_sender_name : List ℕ → Bool
is_sender_name [] = false
is_sender_name (c ∷ cs) = nat_le (char "a") c && nat_le c (char "z") && list_all is_qualifier_char cs && nat_le (length cs) 31

-- senders' names: valid and all different
unfoldable pub are_senders : List (List ℕ) → Bool
are_senders names = list_all is_sender_name names && is_distinct names

-- the word of a role (this office decides which roles exist, and their words)
abbrev pub role_word : Role → List ℕ
role_word Upload = codes "upload"
role_word Build = codes "build"
role_word Bugs = codes "bugs"
role_word Release = codes "release"
role_word Runs = codes "runs"

-- the role with this word
unfoldable pub role_named : List ℕ → Option Role
role_named text = find (λ role. bytes_eq text (role_word role)) (Upload ∷ Build ∷ Bugs ∷ Release ∷ Runs ∷ [])

-- both roles are the same: they have the same word
abbrev pub same_role : Role → Role → Bool
same_role a b = bytes_eq (role_word a) (role_word b)

-- the number of senders with a role
abbrev pub count_of : Role → List Sender → ℕ
count_of role senders = count_by (λ (s : Sender). same_role role s.role) senders

-- uploads and builds have senders; bugs, the release team and runs have exactly one each
unfoldable pub are_roles : List Sender → Bool
are_roles senders =
    nat_le 1 (count_of Upload senders) && nat_le 1 (count_of Build senders)
    && count_of Bugs senders == 1 && count_of Release senders == 1 && count_of Runs senders == 1

-- the names of senders
abbrev pub names_of : List Sender → List (List ℕ)
names_of senders = map (λ (s : Sender). s.name) senders

-- The invariant of a setup: its architectures are valid, and so are the names of its senders, at most 16 and all
-- different. Bugs, the release team and runs have exactly one sender each; uploads and builds have at least one.
pub record IsSetup (setup : Lists) : Type 0 where
  pub archs : IsArchs setup.archs
  pub few : length setup.senders ≤ 16
  pub named : list_all is_sender_name (names_of setup.senders) ≡ true
  pub distinct : is_distinct (names_of setup.senders) ≡ true
  pub uploads : 1 ≤ count_of Upload setup.senders
  pub builds : 1 ≤ count_of Build setup.senders
  pub bugs : count_of Bugs setup.senders ≡ 1
  pub release : count_of Release setup.senders ≡ 1
  pub runs : count_of Runs setup.senders ≡ 1

-- the content of a sender's paragraph: a name and a role's word
unfoldable pub sender_texts : Paragraph → Result (List ℕ × List ℕ) SetupFault
sender_texts p = do
  name ← stated p field.Sender
  role ← stated p field.Role
  Ok (name, role)

-- the sender with this name and role
unfoldable pub sender_in : List ℕ × List ℕ → Result Sender SetupFault
sender_in s = given (role_named s.1) BadRoles >>= λ role. Ok (record { name = s.0; role = role })

-- a text is short enough, with few enough architectures and senders
abbrev pub is_small : ℕ → List (List ℕ) → List Sender → Bool
is_small size archs senders = nat_le (length archs) most_archs && nat_le (length senders) 16 && nat_le size 65_536

-- the setup with these fields
unfoldable pub setup_by : ℕ → List (List ℕ) → List (List ℕ × List ℕ) → Result Lists SetupFault
setup_by size archs senders = do
  _ ← needs (are_archs archs) BadArchitecture
  _ ← needs (are_senders (map (λ (s : List ℕ × List ℕ). s.0) senders)) BadSender
  found ← each_of sender_in senders
  _ ← needs (are_roles found) BadRoles
  _ ← needs (is_small size archs found) TooMany
  Ok (record { archs = archs; senders = found })

-- the first paragraph names the architectures, and each later one a sender
unfoldable pub setup_of : ℕ → List Paragraph → Result Lists SetupFault
setup_of size paragraphs = do
  archs ← stated (first_of paragraphs) field.Architectures
  senders ← each_of sender_texts (rest_of paragraphs)
  setup_by size (words archs) senders

-- the setup in a text, or its first fault
unfoldable pub setup_in : List ℕ → Result Lists SetupFault
setup_in text = whole (reading text) BadParagraph >>= λ paragraphs. setup_of (length text) paragraphs

-- the place of the first sender with a role, or the number of senders if there is none
abbrev pub place_of_role : Role → List Sender → ℕ
place_of_role role [] = 0
place_of_role role (sender ∷ senders) = if same_role role sender.role then 0 else place_of_role role senders + 1
