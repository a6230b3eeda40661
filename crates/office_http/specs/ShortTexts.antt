-- How much of a text the answer to a question has. That it is short, and how it is cut, is decided by this office.
use Rattle.std.specs.Prelude.{ℕ, ◌-◌, ◌==◌, Bool, true, false, List, [], ◌∷◌, ◌++◌, codes, decimal, take, drop, length, not, nat_le, if◌then◌else◌}
use Rattle.std.specs.List.{count_by, suffix_len}
use Rattle.office_http_requests.specs.declared.reply.Answer.{Answer}
use Rattle.office_http_requests.specs.declared.reply.Answer.TheVariants.{Told}
use Rattle.office_http_requests.specs.declared.request.Page.{Page}
use Rattle.office_http_requests.specs.declared.request.Page.TheVariants as page

-- a byte that ends a line
abbrev pub ends_line : ℕ → Bool
ends_line b = b == 10

-- a byte that ends none
abbrev pub is_within_line : ℕ → Bool
is_within_line b = not (ends_line b)

-- a text up to its last line feed
unfoldable pub whole_lines : List ℕ → List ℕ
whole_lines text = take (length text - suffix_len is_within_line text) text

-- the line on how many lines are left out
abbrev pub left_out_line : ℕ → List ℕ
left_out_line lines = codes "left out " ++ decimal lines ++ codes " lines" ++ 10 ∷ []

-- the whole lines within that many first bytes of a text, and then how many lines are left out
abbrev pub cut_text : ℕ → List ℕ → List ℕ
cut_text room text =
    let front = whole_lines (take room text) in
    front ++ left_out_line (count_by ends_line (drop (length front) text))

-- a text of at most 4,000,000 bytes, or of a longer one the whole lines within its first 3,999,900
unfoldable pub short_text : List ℕ → List ℕ
short_text text = if nat_le (length text) 4_000_000 then text else cut_text 3_999_900 text

-- an answer, with a short text
abbrev pub short_answer : Answer → Answer
short_answer (Told text) = Told (short_text text)
short_answer other = other

-- the pages with uncut texts: testing, unstable and the reports of runs
abbrev pub is_told_whole : Page → Bool
is_told_whole page.Testing = true
is_told_whole page.Unstable = true
is_told_whole (page.Excuses run) = true
is_told_whole (page.Update run) = true
is_told_whole _ = false

-- the answer for a page, given the page's text
abbrev pub short_page : Page → Answer → Answer
short_page page answer = if is_told_whole page then answer else short_answer answer
