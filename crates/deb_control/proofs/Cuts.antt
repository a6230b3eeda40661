-- Where a text is cut: at the end of a field, and at the end of its name.
use Rattle.std.proofs.Common.{◌≡◌, ℕ, ◌+◌, ◌-◌, ◌<◌, ◌≤◌, true, false, not, List, [], ◌∷◌, ◌++◌, length, take, drop, get_or, slice_index, Result, Ok, Err, refl, sym, ap, ◌∙◌, subst, ⊎_elim, inl, inr, one-add, arith, eqb-true, true≢false}
use Rattle.std.specs.List.{position_or_len, list_all}
use Rattle.std.specs.Result.{MatchResult, result_ok}
use Rattle.std.specs.Str.{IsUtf8, is_utf8}
use Rattle.std.specs.Borrow.{Bor}
use Rattle.std.proofs.lemmas.Str.{IsUtf8-from_is_utf8, is_utf8-from_IsUtf8}
use Rattle.std.proofs.lemmas.Bool.{false_from_ne_true, cases_lt}
use Rattle.std.proofs.lemmas.List.{take_all, take-take, take-append-drop, drop_more, length-drop, length-take-le, get_or-drop, get_or-take}
use Rattle.std.proofs.lemmas.List.Sums.{prefix_len-le-length, passes_at_first, position_or_len_is}
use Rattle.std.proofs.lemmas.List.Folds.{list_all-append}
use Rattle.deb_version.specs.Text.{is_colon}
use Rattle.deb_control.specs.Text.{is_line_feed, lines, continues}
use Rattle.deb_control.specs.Paragraphs.{reading, reading_of_text}
use Rattle.deb_control.specs.Reader.{left_in}
use Rattle.deb_control.specs.steps.ReaderSteps.{has_colon, line_in_front, IsFieldCut, IsLineEnd, IsFieldEnd, IsColonAt}
use Rattle.deb_control.proofs.Split.{any_within, none_within, take_sum}
use Rattle.deb_control.proofs.Lines.{lines_head, lines_cut, lines_of_line, empty_continues_nothing}

-- a new reader has all that there is to read
pub all_left : {E : Type 0} (bytes : List ℕ) (r : Result (Bor (List ℕ)) E) (Q : E → Type 0) → MatchResult r (λ s. (s.now ≡ bytes) × IsUtf8 bytes) (λ e. ¬ (IsUtf8 bytes) × Q e) → left_in (result_ok r) ≡ reading bytes
unfolding reading
all_left bytes (Ok s) Q h = rw (is_utf8-from_IsUtf8 bytes h.1) (ap reading_of_text h.0)
all_left bytes (Err e) Q h = rw (false_from_ne_true (is_utf8 bytes) (λ t. h.0 (IsUtf8-from_is_utf8 bytes t))) refl

-- the first line ends at the first line feed
pub line_end_first : (bytes : List ℕ) → IsLineEnd bytes (position_or_len is_line_feed bytes)
line_end_first bytes = record {
  within = prefix_len-le-length (λ c. not (is_line_feed c)) bytes;
  at = λ h. eqb-true _ _ (passes_at_first is_line_feed bytes 0 h);
  continued = ap (λ ls. list_all continues (drop 1 ls)) (lines_of_line bytes);
}

-- the next line ends at the next line feed
pub line_end_next : (bytes : List ℕ) (n : ℕ) → IsLineEnd bytes n → n < length bytes → continues (line_in_front (drop (n + 1) bytes)) ≡ true → IsLineEnd bytes (n + (1 + position_or_len is_line_feed (drop (n + 1) bytes)))
line_end_next bytes n e some more =
    let after = drop (n + 1) bytes in
    let m = position_or_len is_line_feed after in
    let short : m ≤ length after = prefix_len-le-length (λ c. not (is_line_feed c)) after in
    let len : length after ≡ length bytes - (n + 1) = length-drop (n + 1) bytes in
    let front : take (n + (1 + m)) bytes ≡ take n bytes ++ 10 ∷ line_in_front after =
    take_sum bytes n (1 + m) e.within ∙ ap (λ (t : List ℕ). take n bytes ++ take (1 + m) t) (drop_more bytes n 0 some ∙ ap (λ (c : ℕ). c ∷ after) (e.at some)) ∙ ap (λ (k : ℕ). take n bytes ++ take k (10 ∷ after)) (one-add m) in
    let cut : lines (take (n + (1 + m)) bytes) ≡ (line_in_front (take n bytes) ∷ drop 1 (lines (take n bytes))) ++ line_in_front after ∷ [] =
    ap lines front ∙ lines_cut (take n bytes) (line_in_front after) ∙ ap (λ ls. ls ++ lines (line_in_front after)) (lines_head (take n bytes)) ∙ ap (λ (ls : List (List ℕ)). (line_in_front (take n bytes) ∷ drop 1 (lines (take n bytes))) ++ ls) (lines_of_line after) in
    record {
      within = omega (arith, len, short);
      at = λ h.
          let there : m < length after = omega (arith, len) in
          let place : n + 1 + m ≡ n + (1 + m) = omega arith in
          sym (ap (λ (k : ℕ). get_or bytes k 0) place) ∙ sym (get_or-drop (n + 1) bytes m 0) ∙ eqb-true _ _ (passes_at_first is_line_feed after 0 there);
      continued = ap (λ ls. list_all continues (drop 1 ls)) cut ∙ list_all-append continues (drop 1 (lines (take n bytes))) (line_in_front after ∷ []) ∙ rw (e.continued, more) refl;
    }

-- a field that ends with the text, and one that ends before it
pub cut_at_end : (text : List ℕ) (n : ℕ) → IsFieldEnd text n → n ≡ length text → IsFieldCut text text []
cut_at_end text n e all = record {
  joined = inr (refl, refl);
  continued = subst (λ (t : List ℕ). list_all continues (drop 1 (lines t)) ≡ true) (ap (λ (k : ℕ). take k text) all ∙ take_all (length text) text (omega arith)) e.line.continued;
  ends = empty_continues_nothing;
}

pub cut_within : (text : List ℕ) (n : ℕ) → IsFieldEnd text n → n < length text → IsFieldCut text (take n text) (drop (n + 1) text)
cut_within text n e some = record {
  joined = inl (sym (take-append-drop n text) ∙ ap (λ (t : List ℕ). take n text ++ t) (drop_more text n 0 some ∙ ap (λ (c : ℕ). c ∷ drop (n + 1) text) (e.line.at some)));
  continued = e.line.continued;
  ends = e.ends some;
}

-- no byte before n ends a name or a line
abbrev pub NameGoesOn : List ℕ → ℕ → Type 0
NameGoesOn whole n = (k : ℕ) → k < n → (is_colon (slice_index whole k) ≡ false) × (is_line_feed (slice_index whole k) ≡ false)

-- a line feed comes after a colon before which there is none
feed_later : (whole : List ℕ) (n k : ℕ) → NameGoesOn whole n → slice_index whole n ≡ 58 → is_line_feed (slice_index whole k) ≡ true → n < k
feed_later whole n k before colon feed = ⊎_elim
    (λ (less : k < n). absurd (true≢false (sym feed ∙ (before k less).1)))
    (λ (more : n ≤ k). ⊎_elim
    (λ (after : n < k). after)
    (λ (upto : k ≤ n). let same : k ≡ n = omega arith in absurd (omega (arith, colon, eqb-true _ _ feed, ap (λ (j : ℕ). slice_index whole j) same)))
    (cases_lt n k))
    (cases_lt k n)

-- the first colon of the first line
pub colon_at : (whole : List ℕ) (n : ℕ) → n < length whole → NameGoesOn whole n → slice_index whole n ≡ 58 → IsColonAt whole n
colon_at whole n within before colon =
    let line = line_in_front whole in
    let k = position_or_len is_line_feed whole in
    let k_le : k ≤ length whole = prefix_len-le-length (λ c. not (is_line_feed c)) whole in
    let later : n < k = ⊎_elim
    (λ (h : k < length whole). feed_later whole n k before colon (passes_at_first is_line_feed whole 0 h))
    (λ (h : length whole ≤ k). omega arith)
    (cases_lt k (length whole)) in
    let len : length line ≡ k = length-take-le k whole k_le in
    let passes : is_colon (slice_index whole n) ≡ true = ap is_colon colon in
    let first : position_or_len is_colon whole ≡ n = position_or_len_is is_colon whole n 0 (omega arith) (λ j below. (before j below).0) (λ _. passes) in
    let first_of_line : position_or_len is_colon line ≡ n =
    position_or_len_is is_colon line n 0 (omega (arith, len))
    (λ j below. ap is_colon (get_or-take k whole j 0 (omega arith)) ∙ (before j below).0)
    (λ _. ap is_colon (get_or-take k whole n 0 later) ∙ passes) in
    record {
      has = any_within is_colon line (omega (arith, len, first_of_line));
      within = within;
      colon = colon;
      name = sym (take-take n k whole (omega arith)) ∙ ap (λ (i : ℕ). take i line) (sym first_of_line);
      value = ap (λ (i : ℕ). drop (i + 1) whole) (sym first);
    }

-- the first line ends before any colon
pub no_colon : (whole : List ℕ) (n : ℕ) → n ≤ length whole → NameGoesOn whole n → (n < length whole → is_line_feed (slice_index whole n) ≡ true) → has_colon (line_in_front whole) ≡ false
no_colon whole n within before feed =
    let line = line_in_front whole in
    let k = position_or_len is_line_feed whole in
    let at : k ≡ n = position_or_len_is is_line_feed whole n 0 within (λ j below. (before j below).1) feed in
    let len : length line ≡ n = length-take-le k whole (omega (arith, at)) ∙ at in
    none_within is_colon line
    (position_or_len_is is_colon line (length line) 0 (omega arith)
    (λ j below. let less : j < n = omega (arith, len) in ap is_colon (get_or-take k whole j 0 (omega (arith, at))) ∙ (before j less).0)
    (λ past. absurd (omega arith)))

-- the length of the first line is the place of its line feed
pub feed_at : (text : List ℕ) → position_or_len is_line_feed text < length text → slice_index text (position_or_len is_line_feed text) ≡ 10
feed_at text h = eqb-true _ _ (passes_at_first is_line_feed text 0 h)

pub feed_within : (text : List ℕ) (n : ℕ) → n ≡ position_or_len is_line_feed text → (n ≡ length text → ⊥) → n < length text
feed_within text n at other = omega (arith, prefix_len-le-length (λ c. not (is_line_feed c)) text)
