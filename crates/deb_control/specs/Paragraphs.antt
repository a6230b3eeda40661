-- The paragraphs of a text of control data, and its first bad line (Debian Policy 5.1).
use Rattle.std.specs.Prelude.{ℕ, Bool, true, false, not, ◌&&◌, ◌==◌, nat_le, if◌then◌else◌, List, [], ◌∷◌, ◌++◌, Option, Some, None}
use Rattle.std.specs.List.{list_all, list_any, filter, find, slice_split, take_while, before_first, after_first, join_with_byte}
use Rattle.std.specs.Option.{option_map, option_map_or, option_or}
use Rattle.std.specs.Borrow.{Bor}
use Rattle.std.specs.Str.{is_utf8, str_eq_ignore_ascii_case}
use Rattle.deb_version.specs.Characters.{char}
use Rattle.deb_version.specs.Text.{is_colon, first_held}
use Rattle.deb_control.specs.Text.{lines, is_blank_line, continues, trim_white}
use Rattle.deb_control.specs.declared.fault.ParagraphFault.{ParagraphFault}
use Rattle.deb_control.specs.declared.fault.ParagraphFault.TheVariants.{NotUtf8, NoColon, BadName, FirstLineContinues, RepeatedField}

-- a field: its name and its value
abbrev pub Field : Type 0
Field = List ℕ × List ℕ

-- a field as borrowed parts of the source, by their bytes
abbrev pub shown : Bor (List ℕ) × Bor (List ℕ) → Field
shown f = (f.0.now, f.1.now)

-- whether a list has any items
abbrev pub not_empty : {X : Type 0} → List X → Bool
not_empty [] = false
not_empty (x ∷ xs) = true

-- a character of a field's name: from ! to ~, except the colon (Debian Policy 5.1)
abbrev pub is_name_char : ℕ → Bool
is_name_char c = nat_le (char "!") c && nat_le c (char "~") && not (c == char ":")

-- a field's name: at least one character, the first neither # nor -
unfoldable pub is_field_name : List ℕ → Bool
is_field_name [] = false
is_field_name (c ∷ cs) = not (c == char "#") && not (c == char "-") && list_all is_name_char (c ∷ cs)

-- the name in a line that begins a field: the text before its first colon
abbrev pub name_in : List ℕ → List ℕ
name_in line = before_first is_colon line

-- The field that a line begins. Its value includes the lines that continue it, without the white at both ends.
unfoldable pub field_of : List ℕ → List (List ℕ) → Field
field_of line continued = (name_in line, trim_white (after_first is_colon (join_with_byte (char "\n") (line ∷ continued))))

-- the fields of a paragraph's lines: one for each line that doesn't continue another, with its continuing lines
unfoldable pub fields : List (List ℕ) → List Field
fields [] = []
fields (line ∷ after) = if continues line then fields after else field_of line (take_while continues after) ∷ fields after

-- one of these names is this name: names are compared without regard to ASCII case (Debian Policy 5.1)
abbrev pub has_name : List (List ℕ) → List ℕ → Bool
has_name names name = list_any (λ n. str_eq_ignore_ascii_case n name) names

-- the fault of a line that begins a field, after fields with these names in its paragraph
unfoldable pub line_fault : List (List ℕ) → List ℕ → Option ParagraphFault
line_fault names line =
    first_held ((not (list_any is_colon line), NoColon) ∷ (not (is_field_name (name_in line)), BadName)
    ∷ (has_name names (name_in line), RepeatedField) ∷ [])

-- the fault of the first bad line among a paragraph's lines, after fields of these names
unfoldable pub first_fault : List (List ℕ) → List (List ℕ) → Option ParagraphFault
first_fault names [] = None
first_fault names (line ∷ after) =
    if continues line then (if not_empty names then first_fault names after else Some FirstLineContinues)
    else option_or (line_fault names line) (first_fault (names ++ name_in line ∷ []) after)

-- the lines of each paragraph: the longest runs of lines that aren't blank
unfoldable pub paragraph_lines : List (List ℕ) → List (List (List ℕ))
paragraph_lines ls = filter not_empty (slice_split is_blank_line ls)

-- The content of a text: the paragraphs before the first bad line, and the fault of that line if there is one.
pub record Reading : Type 0 where
  pub paragraphs : List (List Field)
  pub refusal : Option ParagraphFault

-- nothing is left
abbrev pub ended : Reading
ended = record { paragraphs = []; refusal = None }

-- only a refusal is left
abbrev pub refusing : ParagraphFault → Reading
refusing fault = record { paragraphs = []; refusal = Some fault }

-- a paragraph, and then the rest
abbrev pub then_read : List Field → Reading → Reading
then_read paragraph rest = record { paragraphs = paragraph ∷ rest.paragraphs; refusal = rest.refusal }

-- the paragraphs in turn, up to one with a bad line: of that only the refusal
unfoldable pub reading_of : List (List (List ℕ)) → Reading
reading_of [] = ended
reading_of (p ∷ ps) = option_map_or refusing (first_fault [] p) (then_read (fields p) (reading_of ps))

-- the content of a text in UTF-8
unfoldable pub reading_of_text : List ℕ → Reading
reading_of_text text = reading_of (paragraph_lines (lines text))

-- the content of any bytes: bytes that aren't UTF-8 are refused as a whole
unfoldable pub reading : List ℕ → Reading
reading bytes = if is_utf8 bytes then reading_of_text bytes else refusing NotUtf8

-- the value of the field with this name, in any case of letters
unfoldable pub value_of : List Field → List ℕ → Option (List ℕ)
value_of paragraph name = option_map (λ (f : Field). f.1) (find (λ (f : Field). str_eq_ignore_ascii_case f.0 name) paragraph)
