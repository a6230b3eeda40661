-- The text of a setup is read as the setup.
use Rattle.std.proofs.Common.{◌≡◌, ℕ, Bool, true, false, not, List, [], ◌∷◌, ◌++◌, codes, map, None, refl, sym, ap, ◌∙◌}
use Rattle.std.specs.List.{list_all, flat_map}
use Rattle.std.proofs.lemmas.List.{append_assoc}
use Rattle.deb_control.specs.Text.{is_line_feed, lines, is_blank_line, continues, trim_white}
use Rattle.deb_control.specs.Paragraphs.{Field, fields, field_of, first_fault, line_fault, is_field_name, paragraph_lines}
use Rattle.deb_control.specs.Relations.{is_qualifier_char}
use Rattle.deb_control.specs.steps.ReaderSteps.{front_run, after_run}
use Rattle.deb_control.proofs.Lines.{lines_cut, lines_nil, paragraphs_past_blank, paragraphs_nil, first_paragraph, front_run_head, front_run_blank, empty_is_blank}
use Rattle.deb_control.proofs.Split.{left_after_yes, left_after_no}
use Rattle.deb_control.proofs.Fronts.{pass_wider}
use Rattle.office_mail_setup.specs.declared.setup.Sender.{Sender}
use Rattle.office_mail_setup.specs.declared.setup.Role.{Role}
use Rattle.office_mail_setup.specs.declared.setup.Role.TheVariants.{Upload, Build, Bugs, Release, Runs}
use Rattle.office_mail_setup.specs.Setup.{role_word}
use Rattle.office_store_tables.specs.SetupText.{sender_lines}
use Rattle.office_store_tables.proofs.WrittenWords.{IsWord, uncut, word_not_feed}

-- a sender's name is a word
abbrev pub NameWords : List Sender → Type 0
NameWords [] = Unit {0}
NameWords (s ∷ ss) = IsWord s.name × NameWords ss

-- ---- lines

abbrev pub name_line : Sender → List ℕ
name_line s = codes "Sender: " ++ s.name

abbrev pub role_line : Sender → List ℕ
role_line s = codes "Role: " ++ role_word s.role

abbrev pub is_within : ℕ → Bool
is_within c = not (is_line_feed c)

within_cut : (c : ℕ) → is_within c ≡ true → is_line_feed c ≡ false
within_cut c h = by (is_line_feed c) h
  where
    by : (b : Bool) → not b ≡ true → b ≡ false
    by true e = absurd (cc)
    by false e = refl

pub word_within : (t : List ℕ) → list_all is_qualifier_char t ≡ true → list_all is_within t ≡ true
word_within t h = pass_wider is_within is_qualifier_char (λ c e. ap not (word_not_feed c e)) t h

pub one_line : (t : List ℕ) → list_all is_within t ≡ true → lines t ≡ t ∷ []
unfolding lines
one_line t h = uncut is_line_feed is_within within_cut t h

lines_role : (r : Role) (rest : List ℕ) → lines (codes "Role: " ++ ((role_word r ++ 10 ∷ []) ++ rest)) ≡ (codes "Role: " ++ role_word r) ∷ lines rest
unfolding lines
lines_role Upload rest = refl
lines_role Build rest = refl
lines_role Bugs rest = refl
lines_role Release rest = refl
lines_role Runs rest = refl

lines_blank : (rest : List ℕ) → lines (10 ∷ rest) ≡ [] ∷ lines rest
unfolding lines
lines_blank rest = refl

pub lines_sender : (s : Sender) (rest : List ℕ) → IsWord s.name → lines (sender_lines s ++ rest) ≡ [] ∷ name_line s ∷ role_line s ∷ lines rest
unfolding sender_lines
lines_sender s rest h =
    let after = codes "Role: " ++ ((role_word s.role ++ 10 ∷ []) ++ rest) in
    let assoc : (s.name ++ (10 ∷ (codes "Role: " ++ (role_word s.role ++ 10 ∷ [])))) ++ rest ≡ s.name ++ (10 ∷ after) = append_assoc s.name (10 ∷ (codes "Role: " ++ (role_word s.role ++ 10 ∷ []))) rest in
    ap (λ t. lines (10 ∷ (codes "Sender: " ++ t))) assoc
    ∙ lines_blank (name_line s ++ 10 ∷ after)
    ∙ ap (λ ls. [] ∷ ls) (lines_cut (name_line s) after
    ∙ ap (λ ls. ls ++ lines after) (one_line (name_line s) (word_within s.name h.all))
    ∙ ap (λ ls. name_line s ∷ ls) (lines_role s.role rest))

-- ---- paragraphs

abbrev pub two_lines : Sender → List (List ℕ)
two_lines s = name_line s ∷ role_line s ∷ []

pub begins_blank : (ss : List Sender) → NameWords ss → (more : List (List ℕ)) × (lines (flat_map sender_lines ss) ≡ [] ∷ more)
begins_blank [] h = ([], lines_nil)
begins_blank (s ∷ ss) h = (_, lines_sender s (flat_map sender_lines ss) h.0)

name_not_blank : (t : List ℕ) → is_blank_line (codes "Sender: " ++ t) ≡ false
unfolding is_blank_line
name_not_blank t = refl

role_not_blank : (t : List ℕ) → is_blank_line (codes "Role: " ++ t) ≡ false
unfolding is_blank_line
role_not_blank t = refl

pub archs_not_blank : (t : List ℕ) → is_blank_line (codes "Architectures:" ++ t) ≡ false
unfolding is_blank_line
archs_not_blank t = refl

abbrev pub is_text : List ℕ → Bool
is_text l = not (is_blank_line l)

two_first : (a b : List ℕ) (more : List (List ℕ)) → is_blank_line a ≡ false → is_blank_line b ≡ false → paragraph_lines (a ∷ b ∷ [] ∷ more) ≡ (a ∷ b ∷ []) ∷ paragraph_lines ([] ∷ more)
two_first a b more ha hb =
    let run : front_run (a ∷ b ∷ [] ∷ more) ≡ a ∷ b ∷ [] = front_run_head a (b ∷ [] ∷ more) ha ∙ ap (λ x. a ∷ x) (front_run_head b ([] ∷ more) hb ∙ ap (λ x. b ∷ x) (front_run_blank [] more empty_is_blank)) in
    let rest : after_run (a ∷ b ∷ [] ∷ more) ≡ [] ∷ more = left_after_yes is_text a (b ∷ [] ∷ more) (ap not ha) ∙ left_after_yes is_text b ([] ∷ more) (ap not hb) ∙ left_after_no is_text [] more (ap not empty_is_blank) in
    first_paragraph a (b ∷ [] ∷ more) ha ∙ ap (λ f. f ∷ paragraph_lines (after_run (a ∷ b ∷ [] ∷ more))) run ∙ ap (λ r. (a ∷ b ∷ []) ∷ paragraph_lines r) rest

pub one_first : (a : List ℕ) (more : List (List ℕ)) → is_blank_line a ≡ false → paragraph_lines (a ∷ [] ∷ more) ≡ (a ∷ []) ∷ paragraph_lines ([] ∷ more)
one_first a more ha =
    let run : front_run (a ∷ [] ∷ more) ≡ a ∷ [] = front_run_head a ([] ∷ more) ha ∙ ap (λ x. a ∷ x) (front_run_blank [] more empty_is_blank) in
    let rest : after_run (a ∷ [] ∷ more) ≡ [] ∷ more = left_after_yes is_text a ([] ∷ more) (ap not ha) ∙ left_after_no is_text [] more (ap not empty_is_blank) in
    first_paragraph a ([] ∷ more) ha ∙ ap (λ f. f ∷ paragraph_lines (after_run (a ∷ [] ∷ more))) run ∙ ap (λ r. (a ∷ []) ∷ paragraph_lines r) rest

pub paragraphs_written : (ss : List Sender) → NameWords ss → paragraph_lines (lines (flat_map sender_lines ss)) ≡ map two_lines ss
paragraphs_written [] h = ap paragraph_lines lines_nil ∙ paragraphs_past_blank [] [] empty_is_blank ∙ paragraphs_nil
paragraphs_written (s ∷ ss) h =
    let next = begins_blank ss h.1 in
    ap paragraph_lines (lines_sender s (flat_map sender_lines ss) h.0)
    ∙ paragraphs_past_blank [] (name_line s ∷ role_line s ∷ lines (flat_map sender_lines ss)) empty_is_blank
    ∙ ap (λ ls. paragraph_lines (name_line s ∷ role_line s ∷ ls)) next.1
    ∙ two_first (name_line s) (role_line s) next.0 (name_not_blank s.name) (role_not_blank (role_word s.role))
    ∙ ap (λ ls. two_lines s ∷ paragraph_lines ls) (sym next.1)
    ∙ ap (λ ps. two_lines s ∷ ps) (paragraphs_written ss h.1)

-- ---- fields

abbrev pub sender_fields : Sender → List Field
sender_fields s = (codes "Sender", s.name) ∷ (codes "Role", role_word s.role) ∷ []

pub no_fault : (n r : List ℕ) → first_fault [] ((codes "Sender: " ++ n) ∷ (codes "Role: " ++ r) ∷ []) ≡ None
unfolding first_fault line_fault continues is_field_name
no_fault n r = refl

pub two_fields : (n r : List ℕ) → fields ((codes "Sender: " ++ n) ∷ (codes "Role: " ++ r) ∷ []) ≡ (codes "Sender", trim_white (32 ∷ n)) ∷ (codes "Role", trim_white (32 ∷ r)) ∷ []
unfolding fields field_of continues
two_fields n r = refl

pub no_fault_archs : (a : List ℕ) → first_fault [] ((codes "Architectures:" ++ a) ∷ []) ≡ None
unfolding first_fault line_fault continues is_field_name
no_fault_archs a = refl

pub archs_field : (a : List ℕ) → fields ((codes "Architectures:" ++ a) ∷ []) ≡ (codes "Architectures", trim_white a) ∷ []
unfolding fields field_of continues
archs_field a = refl

pub role_trimmed : (r : Role) → trim_white (32 ∷ role_word r) ≡ role_word r
unfolding trim_white
role_trimmed Upload = refl
role_trimmed Build = refl
role_trimmed Bugs = refl
role_trimmed Release = refl
role_trimmed Runs = refl
