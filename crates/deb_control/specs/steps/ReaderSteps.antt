-- How a reader of paragraphs cuts its text into lines and fields, and where these end.
use Rattle.std.specs.Prelude.{ℕ, ◌≡◌, ◌<◌, ◌≤◌, ◌+◌, ◌-◌, Bool, true, false, not, ◌&&◌, ◌==◌, List, [], ◌∷◌, ◌++◌, length, take, drop, slice_index, Option, Some, None, Result, Ok, Err, ◌⊎◌}
use Rattle.std.specs.List.{list_all, list_any, take_while, prefix_len, suffix_len, before_first, after_first}
use Rattle.std.specs.Option.{option_map_or}
use Rattle.std.specs.Borrow.{Bor}
use Rattle.deb_version.specs.Characters.{char}
use Rattle.deb_version.specs.Text.{is_colon}
use Rattle.deb_control.specs.Text.{is_white, is_line_feed, lines, is_blank_line, continues, trim_white}
use Rattle.deb_control.specs.Paragraphs.{Field, Reading, is_field_name, name_in, line_fault, refusing, then_read}
use Rattle.deb_control.specs.declared.fault.ParagraphFault.{ParagraphFault}

-- a paragraph and the rest, unless the paragraph has a bad line: then only its refusal
abbrev pub unless_bad : Option ParagraphFault → List Field → Reading → Reading
unless_bad fault paragraph rest = option_map_or refusing fault (then_read paragraph rest)

-- a text without the white at its end
abbrev pub trim_end_white : List ℕ → List ℕ
trim_end_white text = take (length text - suffix_len is_white text) text

-- the first line of a text
abbrev pub line_in_front : List ℕ → List ℕ
line_in_front text = before_first is_line_feed text

-- whether the line has a colon at all
abbrev pub has_colon : List ℕ → Bool
has_colon line = list_any is_colon line

-- the lines before the first blank one, and the lines from there on
abbrev pub front_run : List (List ℕ) → List (List ℕ)
front_run ls = take_while (λ l. not (is_blank_line l)) ls

abbrev pub after_run : List (List ℕ) → List (List ℕ)
after_run ls = drop (prefix_len (λ l. not (is_blank_line l)) ls) ls

-- whole is the field at the front of the text, with its continuing lines, and after is what follows
pub record IsFieldCut (text whole after : List ℕ) : Type 0 where
  pub joined : (text ≡ whole ++ char "\n" ∷ after) ⊎ ((text ≡ whole) × (after ≡ []))
  pub continued : list_all continues (drop 1 (lines whole)) ≡ true
  pub ends : continues (line_in_front after) ≡ false

-- A line of the bytes ends at n, and each line up to there but the first continues.
pub record IsLineEnd (bytes : List ℕ) (n : ℕ) : Type 0 where
  pub within : n ≤ length bytes
  pub at : n < length bytes → slice_index bytes n ≡ char "\n"
  pub continued : list_all continues (drop 1 (lines (take n bytes))) ≡ true

-- the field at the front of the bytes ends at n
pub record IsFieldEnd (bytes : List ℕ) (n : ℕ) : Type 0 where
  pub line : IsLineEnd bytes n
  pub ends : n < length bytes → continues (line_in_front (drop (n + 1) bytes)) ≡ false

-- The first colon of the first line is at n, so the name ends there and the value follows it.
pub record IsColonAt (whole : List ℕ) (n : ℕ) : Type 0 where
  pub has : has_colon (line_in_front whole) ≡ true
  pub within : n < length whole
  pub colon : slice_index whole n ≡ char ":"
  pub name : take n whole ≡ name_in (line_in_front whole)
  pub value : drop (n + 1) whole ≡ after_first is_colon whole

abbrev pub IsNameEnd : List ℕ → Option ℕ → Type 0
IsNameEnd whole None = has_colon (line_in_front whole) ≡ false
IsNameEnd whole (Some n) = IsColonAt whole n

-- a field's name may begin with the first byte
abbrev pub may_name : List ℕ → Bool
may_name [] = false
may_name (c ∷ cs) = not (c == char "#") && not (c == char "-") && not (c == char ":")

-- a colon follows the first n bytes, and a field's name may begin with the first of them
abbrev pub is_named : List ℕ → ℕ → Bool
is_named bytes n = slice_index bytes n == char ":" && may_name bytes

-- the line is refused for its name, whatever fields precede it
abbrev pub NameRefused : ParagraphFault → List ℕ → Type 0
NameRefused e whole = (names : List (List ℕ)) → line_fault names (line_in_front whole) ≡ Some e

-- the result of looking for a name
abbrev pub NameRead : Result ℕ ParagraphFault → List ℕ → Type 0
NameRead (Ok n) whole = IsColonAt whole n × (is_field_name (take n whole) ≡ true)
NameRead (Err e) whole = NameRefused e whole

-- the result of reading a field after fields with these names
abbrev pub FieldRead : Result (Bor (List ℕ) × Bor (List ℕ)) ParagraphFault → List (List ℕ) → List ℕ → Type 0
FieldRead (Ok f) names whole = (line_fault names (line_in_front whole) ≡ None) × (f.0.now ≡ name_in (line_in_front whole)) × (f.1.now ≡ trim_white (after_first is_colon whole))
FieldRead (Err e) names whole = line_fault names (line_in_front whole) ≡ Some e
