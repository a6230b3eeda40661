-- Where a text may be cut, and what it is then.
use Rattle.std.proofs.Common.{◌≡◌, ℕ, ◌+◌, ◌-◌, ◌<◌, ◌≤◌, ◌^◌, ◌++◌, ◌∷◌, Bool, true, false, nat_le, if◌then◌else◌, List, [], length, take, drop, get_or, slice_index, codes, decimal, arith, ap, refl, subst, ◌∙◌, sym, ⊎_elim}
use Rattle.std.specs.List.{count_by, suffix_len}
use Rattle.std.specs.Str.{IsUtf8, IsCharBoundary}
use Rattle.std.proofs.lemmas.Str.{IsCharBoundary-start, IsCharBoundary-after_ascii}
use Rattle.std.proofs.lemmas.Fmt.{length-decimal-le}
use Rattle.std.proofs.lemmas.List.{get_or-take, length-append, length-drop, length-take}
use Rattle.std.proofs.lemmas.List.Sums.{count_by-le-length}
use Rattle.std.proofs.lemmas.Bool.{cases_lt}
use Rattle.std.proofs.lemmas.Bool.Decides.{nat_tests}
use Rattle.office_http.specs.ShortTexts.{cut_text, ends_line, is_within_line, left_out_line, short_text, whole_lines}

-- a text may be cut behind a line feed
pub boundary_behind_line : (bs : List ℕ) (room len : ℕ) → IsUtf8 bs → room ≤ length bs → len ≤ room → (0 < len → slice_index (take room bs) (len - 1) ≡ 10) → IsCharBoundary bs len
boundary_behind_line bs room len u fits within ends =
    ⊎_elim
    (λ (some : 0 < len).
    let feed : get_or bs (len - 1) 0 ≡ 10 = sym (get_or-take room bs (len - 1) 0 (omega arith)) ∙ ends some in
    let ascii : get_or bs (len - 1) 0 < 128 = omega (arith, feed) in
    let at : IsCharBoundary bs ((len - 1) + 1) = IsCharBoundary-after_ascii bs (len - 1) u (omega arith) ascii in
    let same : (len - 1) + 1 ≡ len = omega arith in
    subst (λ (k : ℕ). IsCharBoundary bs k) same at)
    (λ (none : len ≤ 0).
    let same : 0 ≡ len = omega arith in
    subst (λ (k : ℕ). IsCharBoundary bs k) same (IsCharBoundary-start bs u))
    (cases_lt 0 len)

-- the parts of a text that is cut
pub cut_is : (text front rest cut : List ℕ) (room lines : ℕ) → front ≡ whole_lines (take room text) → rest ≡ drop (length front) text → lines ≡ count_by ends_line rest → cut ≡ front ++ left_out_line lines → cut ≡ cut_text room text
cut_is text front rest cut room lines e r n c =
    c ∙ ap (λ (k : ℕ). front ++ left_out_line k) (n ∙ ap (λ (bs : List ℕ). count_by ends_line bs) r) ∙ ap (λ (f : List ℕ). f ++ left_out_line (count_by ends_line (drop (length f) text))) e

-- how long a text is that is cut
sizes : (before digits behind feed : List ℕ) (a b c : ℕ) → length before ≡ a → length behind ≡ b → length feed ≡ c → length (before ++ digits ++ behind ++ feed) ≡ a + length digits + b + c
sizes before digits behind feed a b c e f g = omega (arith, e, f, g, length-append (before ++ digits ++ behind) feed, length-append (before ++ digits) behind, length-append before digits)

left_out_length : (lines : ℕ) → lines < 2 ^ 64 → length (left_out_line lines) ≤ 36
left_out_length lines fits =
    let told : length (decimal lines) ≤ 20 = length-decimal-le 20 lines (omega arith) (omega (arith, fits)) fits in
    let few : 9 + length (decimal lines) + 6 + 1 ≤ 36 = omega (arith, told) in
    subst (λ (n : ℕ). n ≤ 36) (sym (sizes (codes "left out ") (decimal lines) (codes " lines") (10 ∷ []) 9 6 1 refl refl refl)) few

front_length : (room : ℕ) (text : List ℕ) → length (whole_lines (take room text)) ≤ room
unfolding whole_lines
front_length room text = omega (arith, length-take (length (take room text) - suffix_len is_within_line (take room text)) (take room text), length-take room text)

lines_fit : (text front : List ℕ) → length text < 2 ^ 64 → count_by ends_line (drop (length front) text) < 2 ^ 64
lines_fit text front fits = omega (arith, count_by-le-length ends_line (drop (length front) text), length-drop (length front) text)

joined_length : (room lines : ℕ) (front : List ℕ) → length front ≤ room → lines < 2 ^ 64 → length (front ++ left_out_line lines) ≤ room + 36
joined_length room lines front short fits = omega (arith, length-append front (left_out_line lines), left_out_length lines fits)

cut_length : (room : ℕ) (text : List ℕ) → length text < 2 ^ 64 → length (cut_text room text) ≤ room + 36
cut_length room text fits =
    let front = whole_lines (take room text) in
    joined_length room (count_by ends_line (drop (length front) text)) front (front_length room text) (lines_fit text front fits)

whichever : (b : Bool) (text cut : List ℕ) (most : ℕ) → (b ≡ true → length text ≤ most) → length cut ≤ most → length (if b then text else cut) ≤ most
whichever true text cut most own other = own refl
whichever false text cut most own other = other

pub is_short : (text : List ℕ) → length text < 2 ^ 64 → length (short_text text) ≤ 4_000_000
unfolding short_text
is_short text fits = whichever (nat_le (length text) 4_000_000) text (cut_text 3_999_900 text) 4_000_000 (λ e. grind (arith, nat_tests)) (omega (arith, cut_length 3_999_900 text fits))
