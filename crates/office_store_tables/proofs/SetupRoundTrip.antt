-- The text of a setup is read as the setup: what its paragraphs say.
use Rattle.std.proofs.Common.{◌≡◌, ◌==◌, ℕ, suc, zero, ◌*◌, ◌<◌, ◌≤◌, Bool, true, nat_le, nat_lt, ◌&&◌, List, [], ◌∷◌, ◌++◌, codes, length, map, Some, None, Result, Ok, refl, sym, ap, ◌∙◌, arith}
use Rattle.std.specs.List.{list_all, flat_map}
use Rattle.std.specs.Str.{IsUtf8, IsAscii, is_utf8}
use Rattle.std.specs.Cmp.{first_so, second_so}
use Rattle.std.proofs.lemmas.Str.{IsUtf8-from_ascii, IsUtf8-from_is_utf8, is_utf8-from_IsUtf8}
use Rattle.std.proofs.lemmas.Bool.{and_parts, and_from, le-leb, leb-true, ltb-true, lt-ltb}
use Rattle.std.proofs.lemmas.Bool.Decides.{nat_tests}
use Rattle.std.proofs.lemmas.List.{length-append}
use Rattle.std.proofs.lemmas.List.Folds.{list_all-append}
use Rattle.deb_control.specs.Text.{lines, trim_white}
use Rattle.deb_control.specs.Paragraphs.{Field, Reading, paragraph_lines, reading, reading_of, reading_of_text, value_of}
use Rattle.deb_control.specs.Relations.{is_lower_or_digit, is_qualifier_char}
use Rattle.deb_control.specs.Binary.{is_architecture}
use Rattle.deb_control.proofs.Lines.{lines_cut}
use Rattle.deb_control.proofs.Fronts.{pass_wider}
use Rattle.deb_control.proofs.Ends.{qualifiers_are_ascii}
use Rattle.testing_rules_items.specs.Archs.{are_archs, is_arch_name}
use Rattle.office_mail_setup.specs.declared.setup.Sender.{Sender}
use Rattle.office_mail_setup.specs.declared.setup.Role.{Role}
use Rattle.office_mail_setup.specs.declared.setup.Role.TheVariants.{Upload, Build, Bugs, Release, Runs}
use Rattle.office_mail_setup.specs.declared.setup.SetupFault.{SetupFault}
use Rattle.office_mail_setup.specs.declared.setup.SetupField.TheVariants as field
use Rattle.office_mail.specs.Lists.{Lists}
use Rattle.office_mail.specs.Setup.{setup_in, setup_of, setup_by, stated, sender_texts, sender_in, role_named, are_senders, are_roles, is_small, is_sender_name, names_of, count_of, IsSetup}
use Rattle.office_mail.specs.WholeText.{each_of}
use Rattle.office_mail.specs.Values.{words}
use Rattle.office_mail_setup.specs.Setup.{role_word}
use Rattle.office_store_tables.specs.SetupText.{spaced, sender_lines, setup_text}
use Rattle.office_store_tables.proofs.WrittenWords.{IsWord, AreWords, trim_word, words_spaced}
use Rattle.office_store_tables.proofs.WrittenSetup.{NameWords, two_lines, sender_fields, is_within, word_within, one_line, begins_blank, archs_not_blank, one_first, paragraphs_written, no_fault, two_fields, no_fault_archs, archs_field, role_trimmed}

-- ---- names are words

letter_fits : (c : ℕ) → nat_le 97 c ≡ true → nat_le c 122 ≡ true → is_qualifier_char c ≡ true
letter_fits c low high = grind (arith, nat_tests)

digit_fits : (c : ℕ) → is_lower_or_digit c ≡ true → is_qualifier_char c ≡ true
digit_fits c h = grind (arith, nat_tests)

-- a word of 32 characters at most
pub record IsName (t : List ℕ) : Type 0 where
  pub word : IsWord t
  pub few : length t ≤ 32

sender_name : (t : List ℕ) → is_sender_name t ≡ true → IsName t
unfolding is_sender_name
sender_name [] h = absurd (cc)
sender_name (c ∷ cs) h =
    let front = first_so _ _ h in
    let letter = first_so _ _ front in
    let c_fits : is_qualifier_char c ≡ true = letter_fits c (first_so _ _ letter) (second_so _ _ letter) in
    let short : length cs ≤ 31 = leb-true (length cs) 31 (second_so _ _ h) in
    record {
      word = record { some = refl; all = and_from (is_qualifier_char c) (list_all is_qualifier_char cs) c_fits (second_so _ _ front) };
      few = omega (arith, short);
    }

architecture : (t : List ℕ) → is_architecture t ≡ true → IsName t
unfolding is_architecture
architecture [] h = absurd (cc)
architecture (c ∷ cs) h =
    let front = first_so _ _ h in
    let c_fits : is_qualifier_char c ≡ true = digit_fits c (first_so _ _ front) in
    let short : length cs ≤ 31 = leb-true (length cs) 31 (second_so _ _ h) in
    record {
      word = record { some = refl; all = and_from (is_qualifier_char c) (list_all is_qualifier_char cs) c_fits (second_so _ _ front) };
      few = omega (arith, short);
    }

arch_name : (t : List ℕ) → is_arch_name t ≡ true → IsName t
arch_name t h = architecture t (first_so _ _ h)

abbrev AllNames : List (List ℕ) → Type 0
AllNames [] = Unit {0}
AllNames (t ∷ ts) = IsName t × AllNames ts

all_archs : (ts : List (List ℕ)) → list_all is_arch_name ts ≡ true → AllNames ts
all_archs [] h = tt
all_archs (t ∷ ts) h = let both = and_parts (is_arch_name t) (list_all is_arch_name ts) h in (arch_name t both.0, all_archs ts both.1)

all_senders : (ts : List (List ℕ)) → list_all is_sender_name ts ≡ true → AllNames ts
all_senders [] h = tt
all_senders (t ∷ ts) h = let both = and_parts (is_sender_name t) (list_all is_sender_name ts) h in (sender_name t both.0, all_senders ts both.1)

all_words : (ts : List (List ℕ)) → AllNames ts → AreWords ts
all_words [] h = tt
all_words (t ∷ ts) h = (h.0.word, all_words ts h.1)

name_words : (ss : List Sender) → AllNames (names_of ss) → NameWords ss
name_words [] h = tt
name_words (s ∷ ss) h = (h.0.word, name_words ss h.1)

-- ---- the paragraphs

abbrev read_whole : List (List Field) → Reading
read_whole ps = record { paragraphs = ps; refusal = None }

reads_senders : (ss : List Sender) → NameWords ss → reading_of (map two_lines ss) ≡ read_whole (map sender_fields ss)
unfolding reading_of
reads_senders [] h = refl
reads_senders (s ∷ ss) h =
    rw (no_fault s.name (role_word s.role), two_fields s.name (role_word s.role), trim_word s.name h.0, role_trimmed s.role, reads_senders ss h.1) refl

reads_all : (a : List ℕ) (ss : List Sender) → NameWords ss → reading_of (((codes "Architectures:" ++ a) ∷ []) ∷ map two_lines ss) ≡ read_whole (((codes "Architectures", trim_white a) ∷ []) ∷ map sender_fields ss)
unfolding reading_of
reads_all a ss h = rw (no_fault_archs a, archs_field a, reads_senders ss h) refl

archs_within : (ws : List (List ℕ)) → AreWords ws → list_all is_within (flat_map spaced ws) ≡ true
archs_within [] h = refl
archs_within (w ∷ ws) h = list_all-append is_within w (flat_map spaced ws) ∙ rw (word_within w h.0.all, archs_within ws h.1) refl

lines_written : (setup : Lists) → AreWords setup.archs → lines (setup_text setup) ≡ (codes "Architectures:" ++ flat_map spaced setup.archs) ∷ lines (flat_map sender_lines setup.senders)
unfolding setup_text
lines_written setup h =
    lines_cut (codes "Architectures:" ++ flat_map spaced setup.archs) (flat_map sender_lines setup.senders)
    ∙ ap (λ ls. ls ++ lines (flat_map sender_lines setup.senders)) (one_line (codes "Architectures:" ++ flat_map spaced setup.archs) (archs_within setup.archs h))

paragraphs_of : (setup : Lists) → AreWords setup.archs → NameWords setup.senders → paragraph_lines (lines (setup_text setup)) ≡ ((codes "Architectures:" ++ flat_map spaced setup.archs) ∷ []) ∷ map two_lines setup.senders
paragraphs_of setup a n =
    let next = begins_blank setup.senders n in
    let line = codes "Architectures:" ++ flat_map spaced setup.archs in
    ap paragraph_lines (lines_written setup a)
    ∙ ap (λ ls. paragraph_lines (line ∷ ls)) next.1
    ∙ one_first line next.0 (archs_not_blank (flat_map spaced setup.archs))
    ∙ ap (λ ls. (line ∷ []) ∷ paragraph_lines ls) (sym next.1)
    ∙ ap (λ ps. (line ∷ []) ∷ ps) (paragraphs_written setup.senders n)

text_reads : (setup : Lists) → AreWords setup.archs → NameWords setup.senders → reading_of_text (setup_text setup) ≡ read_whole (((codes "Architectures", trim_white (flat_map spaced setup.archs)) ∷ []) ∷ map sender_fields setup.senders)
unfolding reading_of_text
text_reads setup a n = ap reading_of (paragraphs_of setup a n) ∙ reads_all (flat_map spaced setup.archs) setup.senders n

-- ---- what they say

abbrev stated_of : Sender → List ℕ × List ℕ
stated_of s = (s.name, role_word s.role)

states_sender : (s : Sender) → sender_texts (sender_fields s) ≡ Ok (stated_of s)
unfolding sender_texts stated value_of
states_sender s = refl

states_all : (ss : List Sender) → each_of sender_texts (map sender_fields ss) ≡ Ok (map stated_of ss)
states_all [] = refl
states_all (s ∷ ss) = rw (states_sender s, states_all ss) refl

states_archs : (a : List ℕ) → stated ((codes "Architectures", a) ∷ []) field.Architectures ≡ Ok a
unfolding stated value_of
states_archs a = refl

role_read : (r : Role) → role_named (role_word r) ≡ Some r
unfolding role_named
role_read Upload = refl
role_read Build = refl
role_read Bugs = refl
role_read Release = refl
role_read Runs = refl

sender_read : (s : Sender) → sender_in (stated_of s) ≡ Ok s
unfolding sender_in
sender_read s = rw (role_read s.role) refl

senders_read : (ss : List Sender) → each_of sender_in (map stated_of ss) ≡ Ok ss
senders_read [] = refl
senders_read (s ∷ ss) = rw (sender_read s, senders_read ss) refl

names_stated : (ss : List Sender) → map (λ (s : List ℕ × List ℕ). s.0) (map stated_of ss) ≡ names_of ss
names_stated [] = refl
names_stated (s ∷ ss) = ap (λ ns. s.name ∷ ns) (names_stated ss)

-- ---- the tests that every setup passes

both_true : (a b : Bool) → a ≡ true → b ≡ true → (a && b) ≡ true
both_true a b h k = and_from a b h k

same_number : (n m : ℕ) → n ≡ m → (n == m) ≡ true
same_number n m h = grind (arith, nat_tests)

archs_pass : (setup : Lists) → IsSetup setup → are_archs setup.archs ≡ true
unfolding are_archs
archs_pass setup h =
    both_true _ _ (both_true _ _ (le-leb 1 (length setup.archs) h.archs.some) h.archs.named) h.archs.distinct

senders_pass : (setup : Lists) → IsSetup setup → are_senders (names_of setup.senders) ≡ true
unfolding are_senders
senders_pass setup h = both_true _ _ h.named h.distinct

roles_pass : (setup : Lists) → IsSetup setup → are_roles setup.senders ≡ true
unfolding are_roles
roles_pass setup h =
    both_true _ _ (both_true _ _ (both_true _ _ (both_true _ _ (le-leb 1 (count_of Upload setup.senders) h.uploads) (le-leb 1 (count_of Build setup.senders) h.builds))
    (same_number _ 1 h.bugs)) (same_number _ 1 h.release)) (same_number _ 1 h.runs)

by_size : (size : ℕ) (setup : Lists) → IsSetup setup → size ≤ 65_536 → setup_by size setup.archs (map stated_of setup.senders) ≡ Ok setup
unfolding setup_by
by_size size setup h small =
    let fits : is_small size setup.archs setup.senders ≡ true = both_true _ _ (both_true _ _ (le-leb (length setup.archs) 16 h.archs.few) (le-leb (length setup.senders) 16 h.few)) (le-leb size 65_536 small) in
    rw (archs_pass setup h, names_stated setup.senders, senders_pass setup h, senders_read setup.senders, roles_pass setup h, fits) refl

-- ---- the size

role_size : (r : Role) → length (role_word r) ≤ 7
role_size Upload = omega arith
role_size Build = omega arith
role_size Bugs = omega arith
role_size Release = omega arith
role_size Runs = omega arith

archs_size : (ws : List (List ℕ)) → AllNames ws → length (flat_map spaced ws) ≤ 33 * length ws
archs_size [] h = omega arith
archs_size (w ∷ ws) h = omega (arith, length-append w (flat_map spaced ws), h.0.few, archs_size ws h.1)

sender_size : (s : Sender) → IsName s.name → length (sender_lines s) ≤ 60
unfolding sender_lines
sender_size s h =
    omega (arith, length-append s.name (10 ∷ (codes "Role: " ++ (role_word s.role ++ 10 ∷ []))), length-append (role_word s.role) (10 ∷ []), h.few, role_size s.role)

senders_size : (ss : List Sender) → AllNames (names_of ss) → length (flat_map sender_lines ss) ≤ 60 * length ss
senders_size [] h = omega arith
senders_size (s ∷ ss) h = omega (arith, length-append (sender_lines s) (flat_map sender_lines ss), sender_size s h.0, senders_size ss h.1)

text_size : (setup : Lists) → IsSetup setup → length (setup_text setup) ≤ 65_536
unfolding setup_text
text_size setup h =
    omega (
      arith,
      length-append (flat_map spaced setup.archs) (10 ∷ flat_map sender_lines setup.senders),
      archs_size setup.archs (all_archs setup.archs h.archs.named),
      h.archs.few,
      senders_size setup.senders (all_senders (names_of setup.senders) h.named),
      h.few,
    )

-- ---- its bytes

ascii_next : (c : ℕ) (cs : List ℕ) → c < 128 → IsAscii cs → IsAscii (c ∷ cs)
ascii_next c cs small h zero = small
ascii_next c cs small h (suc i) = h i

abbrev is_low : ℕ → Bool
is_low c = nat_lt c 128

all_ascii : (t : List ℕ) → list_all is_low t ≡ true → IsAscii t
all_ascii [] h = λ i. omega arith
all_ascii (c ∷ cs) h = let both = and_parts (is_low c) (list_all is_low cs) h in ascii_next c cs (ltb-true c 128 both.0) (all_ascii cs both.1)

word_low : (t : List ℕ) → list_all is_qualifier_char t ≡ true → list_all is_low t ≡ true
word_low t h = pass_wider is_low is_qualifier_char (λ c e. lt-ltb c 128 (qualifiers_are_ascii c e)) t h

archs_low : (ws : List (List ℕ)) → AreWords ws → list_all is_low (flat_map spaced ws) ≡ true
archs_low [] h = refl
archs_low (w ∷ ws) h = list_all-append is_low w (flat_map spaced ws) ∙ both_true _ _ (word_low w h.0.all) (archs_low ws h.1)

role_low : (r : Role) → list_all is_low (role_word r ++ 10 ∷ []) ≡ true
role_low Upload = refl
role_low Build = refl
role_low Bugs = refl
role_low Release = refl
role_low Runs = refl

sender_low : (s : Sender) → IsWord s.name → list_all is_low (sender_lines s) ≡ true
unfolding sender_lines
sender_low s h = list_all-append is_low s.name (10 ∷ (codes "Role: " ++ (role_word s.role ++ 10 ∷ []))) ∙ both_true _ _ (word_low s.name h.all) (role_low s.role)

senders_low : (ss : List Sender) → NameWords ss → list_all is_low (flat_map sender_lines ss) ≡ true
senders_low [] h = refl
senders_low (s ∷ ss) h = list_all-append is_low (sender_lines s) (flat_map sender_lines ss) ∙ both_true _ _ (sender_low s h.0) (senders_low ss h.1)

text_is_utf8 : (setup : Lists) → AreWords setup.archs → NameWords setup.senders → is_utf8 (setup_text setup) ≡ true
unfolding setup_text
text_is_utf8 setup a n =
    let text = codes "Architectures:" ++ (flat_map spaced setup.archs ++ (10 ∷ flat_map sender_lines setup.senders)) in
    let low : list_all is_low text ≡ true =
    list_all-append is_low (flat_map spaced setup.archs) (10 ∷ flat_map sender_lines setup.senders) ∙ both_true _ _ (archs_low setup.archs a) (senders_low setup.senders n) in
    is_utf8-from_IsUtf8 text (IsUtf8-from_ascii text (all_ascii text low))

pub text_utf8 : (setup : Lists) → IsSetup setup → IsUtf8 (setup_text setup)
text_utf8 setup h =
    IsUtf8-from_is_utf8 (setup_text setup) (text_is_utf8 setup (all_words setup.archs (all_archs setup.archs h.archs.named)) (name_words setup.senders (all_senders (names_of setup.senders) h.named)))

-- ---- the whole

some_word : (ws : List (List ℕ)) → 1 ≤ length ws → AreWords ws → words (trim_white (flat_map spaced ws)) ≡ ws
some_word [] some h = absurd (omega (arith, some))
some_word (w ∷ ws) some h = words_spaced w ws h

fields_read : (size : ℕ) (setup : Lists) → IsSetup setup → AreWords setup.archs → size ≤ 65_536 → setup_of size (((codes "Architectures", trim_white (flat_map spaced setup.archs)) ∷ []) ∷ map sender_fields setup.senders) ≡ Ok setup
unfolding setup_of
fields_read size setup h a small =
    rw (states_archs (trim_white (flat_map spaced setup.archs)), states_all setup.senders, some_word setup.archs h.archs.some a) (by_size size setup h small)

-- the text of a setup is read as the setup
pub read_back : (setup : Lists) → IsSetup setup → setup_in (setup_text setup) ≡ Ok setup
unfolding setup_in reading
read_back setup h =
    let a = all_words setup.archs (all_archs setup.archs h.archs.named) in
    let n = name_words setup.senders (all_senders (names_of setup.senders) h.named) in
    rw (text_is_utf8 setup a n, text_reads setup a n) (fields_read (length (setup_text setup)) setup h a (text_size setup h))

same_value : (s t : Lists) → ◌≡◌ {A = Result Lists SetupFault} (Ok s) (Ok t) → s ≡ t
same_value s t h = cc

-- so setups are told apart by their texts
pub same_by_text : (s t : Lists) → IsSetup s → IsSetup t → setup_text s ≡ setup_text t → s ≡ t
same_by_text s t hs ht e = same_value s t (sym (read_back s hs) ∙ ap setup_in e ∙ read_back t ht)
