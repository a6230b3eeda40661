-- The lines of an order, as a reader finds them.
use Rattle.std.proofs.Common.{◌≡◌, ℕ, true, not, List, [], ◌∷◌, ◌++◌, None, refl, ap, ◌∙◌, codes}
use Rattle.std.specs.List.{list_all, filter, slice_split}
use Rattle.std.proofs.lemmas.List.Splits.{slice_split_at}
use Rattle.deb_control.specs.Text.{is_line_feed, is_blank_line, continues, lines, trim_white}
use Rattle.deb_control.specs.Paragraphs.{not_empty, fields, field_of, first_fault, line_fault, is_field_name, paragraph_lines, reading_of, reading_of_text}
use Rattle.office_core_laws.proofs.OrderWords.{none_of}

abbrev pub HasNoFeed : List ℕ → Type 0
HasNoFeed text = list_all (λ c. not (is_line_feed c)) text ≡ true

-- a line, and those after it
line_first : (line rest : List ℕ) → HasNoFeed line → lines (line ++ 10 ∷ rest) ≡ line ∷ lines rest
unfolding lines
line_first line rest h = slice_split_at is_line_feed line 10 rest (none_of is_line_feed line h) refl

module _ (a b d e : List ℕ) (na : HasNoFeed a) (nb : HasNoFeed b) (nd : HasNoFeed d) (ne : HasNoFeed e) where
  abbrev from : List ℕ
  from = codes "From: " ++ a

  abbrev number : List ℕ
  number = codes "Number: " ++ b

  abbrev kind : List ℕ
  kind = codes "Kind: run"

  abbrev day : List ℕ
  day = codes "Day: " ++ d

  abbrev covers : List ℕ
  covers = codes "Covers:" ++ e

  abbrev five : List (List ℕ)
  five = from ∷ number ∷ kind ∷ day ∷ covers ∷ []

  abbrev text5 : List ℕ
  text5 = covers ++ 10 ∷ []

  abbrev text4 : List ℕ
  text4 = day ++ 10 ∷ text5

  abbrev text3 : List ℕ
  text3 = kind ++ 10 ∷ text4

  abbrev text2 : List ℕ
  text2 = number ++ 10 ∷ text3

  abbrev text : List ℕ
  text = from ++ 10 ∷ text2

  nothing_more : lines [] ≡ [] ∷ []
  unfolding lines
  nothing_more = refl

  kind_has_none : HasNoFeed kind
  kind_has_none = refl

  lines5 : lines text5 ≡ covers ∷ [] ∷ []
  lines5 = line_first covers [] ne ∙ ap (λ (ls : List (List ℕ)). covers ∷ ls) nothing_more

  lines4 : lines text4 ≡ day ∷ covers ∷ [] ∷ []
  lines4 = line_first day text5 nd ∙ ap (λ (ls : List (List ℕ)). day ∷ ls) lines5

  lines3 : lines text3 ≡ kind ∷ day ∷ covers ∷ [] ∷ []
  lines3 = line_first kind text4 kind_has_none ∙ ap (λ (ls : List (List ℕ)). kind ∷ ls) lines4

  lines2 : lines text2 ≡ number ∷ kind ∷ day ∷ covers ∷ [] ∷ []
  lines2 = line_first number text3 nb ∙ ap (λ (ls : List (List ℕ)). number ∷ ls) lines3

  lines_are : lines text ≡ from ∷ number ∷ kind ∷ day ∷ covers ∷ [] ∷ []
  lines_are = line_first from text2 na ∙ ap (λ (ls : List (List ℕ)). from ∷ ls) lines2

  full : list_all (λ l. not (is_blank_line l)) five ≡ true
  unfolding is_blank_line
  full = refl

  blank_last : is_blank_line [] ≡ true
  unfolding is_blank_line
  blank_last = refl

  paragraph_is : paragraph_lines (lines text) ≡ five ∷ []
  unfolding paragraph_lines
  paragraph_is =
      ap (λ (ls : List (List ℕ)). filter not_empty (slice_split is_blank_line ls)) lines_are
      ∙ ap (filter not_empty) (slice_split_at is_blank_line five [] [] (none_of is_blank_line five full) blank_last)

  no_fault : first_fault [] five ≡ None
  unfolding first_fault line_fault is_field_name continues is_blank_line
  no_fault = refl

  fields_are : fields five ≡ (codes "From", trim_white (32 ∷ a)) ∷ (codes "Number", trim_white (32 ∷ b)) ∷ (codes "Kind", codes "run") ∷ (codes "Day", trim_white (32 ∷ d)) ∷ (codes "Covers", trim_white e) ∷ []
  unfolding fields field_of continues is_blank_line trim_white
  fields_are = refl

  pub reads_five : reading_of_text text ≡ record {
    paragraphs = ((codes "From", trim_white (32 ∷ a)) ∷ (codes "Number", trim_white (32 ∷ b)) ∷ (codes "Kind", codes "run") ∷ (codes "Day", trim_white (32 ∷ d)) ∷ (codes "Covers", trim_white e) ∷ []) ∷ [];
    refusal = None;
  }
  unfolding reading_of_text reading_of
  reads_five = ap reading_of paragraph_is ∙ rw (no_fault, fields_are) refl
