-- Bytes and lines of control data (Debian Policy 5.1).
use Rattle.std.specs.Prelude.{ℕ, ◌-◌, Bool, false, not, ◌&&◌, ◌||◌, ◌==◌, List, [], ◌∷◌, length, take, drop}
use Rattle.std.specs.List.{list_all, slice_split, prefix_len, suffix_len}
use Rattle.deb_version.specs.Characters.{char}

-- a blank is a space, a tab or a carriage return, so that lines may also end with CR LF
abbrev pub is_blank : ℕ → Bool
is_blank c = c == char " " || c == char "\t" || c == char "\r"

-- white is a blank or a line feed
abbrev pub is_white : ℕ → Bool
is_white c = is_blank c || c == char "\n"

-- a line feed, which ends a line
abbrev pub is_line_feed : ℕ → Bool
is_line_feed c = c == char "\n"

-- a text without the white at its two ends
unfoldable pub trim_white : List ℕ → List ℕ
trim_white text = let rest = drop (prefix_len is_white text) text in take (length rest - suffix_len is_white rest) rest

-- the lines of a text: the parts between its line feeds
unfoldable pub lines : List ℕ → List (List ℕ)
lines text = slice_split is_line_feed text

-- a line that separates paragraphs: it is empty or has only blanks (Debian Policy 5.1)
unfoldable pub is_blank_line : List ℕ → Bool
is_blank_line line = list_all is_blank line

-- a line that continues the field above it: it begins with a space or a tab, and isn't blank (Debian Policy 5.1)
unfoldable pub continues : List ℕ → Bool
continues [] = false
continues (c ∷ cs) = (c == char " " || c == char "\t") && not (is_blank_line (c ∷ cs))
