-- The paragraphs of a text that is control data as a whole.
use Rattle.std.specs.Prelude.{List, [], ◌∷◌, Some, None, Result, Ok, Err}
pub use Rattle.deb_control.specs.Results.{needs, given, each_of}
use Rattle.deb_control.specs.Paragraphs.{Reading}
use Rattle.deb_control.specs.Paragraphs.{Field as Entry}

-- a paragraph: names and values
abbrev pub Paragraph : Type 0
Paragraph = List Entry

-- the paragraphs of a text that is control data as a whole
abbrev pub whole : {E : Type 0} → Reading → E → Result (List Paragraph) E
whole r fault = elim r.refusal [ None ↦ Ok r.paragraphs | Some refusal ↦ Err fault ]

-- the first paragraph; a text without paragraphs has an empty one
abbrev pub first_of : List Paragraph → Paragraph
first_of [] = []
first_of (p ∷ ps) = p

-- the paragraphs after the first
abbrev pub rest_of : List Paragraph → List Paragraph
rest_of [] = []
rest_of (p ∷ ps) = ps
