-- Words of an order: names of senders and numbers.
use Rattle.std.proofs.Common.{◌≡◌, ℕ, ◌+◌, ◌-◌, ◌^◌, ◌<◌, ◌≤◌, ◌==◌, ◌||◌, Bool, true, false, not, cond, nat_le, List, [], ◌∷◌, ◌++◌, length, take, reverse, get_or, Some, refl, sym, ap, ◌∙◌, ⊎_elim, arith}
use Rattle.std.specs.Cmp.{first_so, second_so}
use Rattle.std.specs.Cmp.Derive.{both_true}
use Rattle.std.specs.Char.{is_ascii_digit, digit_value}
use Rattle.std.specs.Fmt.{decimal}
use Rattle.std.specs.List.{All, filter, list_all, prefix_len, suffix_len, slice_index_or}
use Rattle.std.specs.Str.Parse.{digits_value, AllDigits}
use Rattle.std.proofs.lemmas.Bool.{cases_lt, not-true}
use Rattle.std.proofs.lemmas.Bool.Decides.{nat_tests}
use Rattle.std.proofs.lemmas.Fmt.{decimal_digit, decimal_is_IsNumeral, decimal_nonempty, first_decimal}
use Rattle.std.proofs.lemmas.List.{append_assoc, reverse-append, take_all}
use Rattle.std.proofs.lemmas.List.Folds.{list_all-append}
use Rattle.std.proofs.lemmas.List.Splits.{slice_split_at, slice_split_none, slice_split-cons_yes}
use Rattle.std.proofs.lemmas.List.Sums.{AllPass-from_list_all}
use Rattle.deb_control.specs.Paragraphs.{not_empty}
use Rattle.deb_control.specs.Relations.{is_qualifier_char}
use Rattle.deb_control.specs.steps.ClauseSteps.{is_comma}
use Rattle.deb_control.specs.Text.{is_line_feed, is_white, trim_white}
use Rattle.deb_control.specs.steps.ReaderSteps.{trim_end_white}
use Rattle.deb_control.proofs.Split.{left_after_yes, left_after_no}
use Rattle.office_mail_setup.specs.Values.{is_number, number_in, words}

-- Tests of all elements.

pub all_weaker : {A : Type 0} (p q : A → Bool) → ((x : A) → p x ≡ true → q x ≡ true) → (xs : List A) → list_all p xs ≡ true → list_all q xs ≡ true
all_weaker p q so [] h = refl
all_weaker p q so (x ∷ xs) h = both_true (so x (first_so _ _ h)) (all_weaker p q so xs (second_so _ _ h))

pub both_all : {A : Type 0} (p : A → Bool) (xs ys : List A) → list_all p xs ≡ true → list_all p ys ≡ true → list_all p (xs ++ ys) ≡ true
both_all p xs ys h k = list_all-append p xs ys ∙ both_true h k

pub none_of : {A : Type 0} (p : A → Bool) (xs : List A) → list_all (λ c. not (p c)) xs ≡ true → All (λ c. p c ≡ false) xs
none_of p xs h = λ k d low. not-true (p (slice_index_or xs k d)) (AllPass-from_list_all (λ c. not (p c)) xs h k d low)

-- A character of a word is no line feed, no white, no comma.
pub no_feed : (c : ℕ) → is_qualifier_char c ≡ true → not (is_line_feed c) ≡ true
no_feed c h = grind (arith, nat_tests)

pub no_white : (c : ℕ) → is_qualifier_char c ≡ true → not (is_white c) ≡ true
no_white c h = grind (arith, nat_tests)

pub no_comma : (c : ℕ) → is_qualifier_char c ≡ true → not (is_comma c) ≡ true
no_comma c h = grind (arith, nat_tests)

digit_is : (c : ℕ) → is_ascii_digit c ≡ true → is_qualifier_char c ≡ true
digit_is c h = grind (arith, nat_tests)

-- a word: letters, digits and hyphens, at least one
pub record IsWord (text : List ℕ) : Type 0 where
  pub chars : list_all is_qualifier_char text ≡ true
  pub some : 0 < length text

not_empty_so : (text : List ℕ) → 0 < length text → not_empty text ≡ true
not_empty_so [] h = absurd (omega arith)
not_empty_so (c ∷ cs) h = refl

pub word_without : (p : ℕ → Bool) → ((c : ℕ) → is_qualifier_char c ≡ true → not (p c) ≡ true) → (text : List ℕ) → IsWord text → All (λ c. p c ≡ false) text
word_without p so text word = none_of p text (all_weaker is_qualifier_char (λ c. not (p c)) so text word.chars)

-- two words after white, or without
pub two_words : (a b : List ℕ) → IsWord a → IsWord b → words (a ++ 32 ∷ b) ≡ a ∷ b ∷ []
unfolding words
two_words a b wa wb =
    ap (filter not_empty) (slice_split_at is_white a 32 b (word_without is_white no_white a wa) refl
    ∙ ap (λ (ws : List (List ℕ)). a ∷ ws) (slice_split_none is_white b (word_without is_white no_white b wb)))
    ∙ rw (not_empty_so a wa.some, not_empty_so b wb.some) refl

pub two_after_white : (a b : List ℕ) → IsWord a → IsWord b → words (32 ∷ (a ++ 32 ∷ b)) ≡ a ∷ b ∷ []
unfolding words
two_after_white a b wa wb = ap (filter not_empty) (slice_split-cons_yes is_white 32 (a ++ 32 ∷ b) refl) ∙ two_words a b wa wb

-- Texts that end with a character that isn't white.

pub record EndsFull (text : List ℕ) : Type 0 where
  pub front : List ℕ
  pub last : ℕ
  pub is : text ≡ front ++ last ∷ []
  pub full : is_white last ≡ false

pub ends_behind : (x text : List ℕ) → EndsFull text → EndsFull (x ++ text)
ends_behind x text e = record {
  front = x ++ e.front;
  last = e.last;
  is = ap (λ (t : List ℕ). x ++ t) e.is ∙ sym (append_assoc x e.front (e.last ∷ []));
  full = e.full;
}

word_ends_at : (c : ℕ) (cs : List ℕ) → list_all is_qualifier_char (c ∷ cs) ≡ true → EndsFull (c ∷ cs)
word_ends_at c [] h = record { front = []; last = c; is = refl; full = not-true (is_white c) (no_white c (first_so _ _ h)) }
word_ends_at c (d ∷ ds) h = ends_behind (c ∷ []) (d ∷ ds) (word_ends_at d ds (second_so _ _ h))

pub word_ends : (text : List ℕ) → IsWord text → EndsFull text
word_ends [] w = let no : 0 < 0 = w.some in absurd (omega (arith, no))
word_ends (c ∷ cs) w = word_ends_at c cs w.chars

none_at_end : (text : List ℕ) → EndsFull text → suffix_len is_white text ≡ 0
none_at_end text e =
    ap (λ (t : List ℕ). prefix_len is_white (reverse t)) e.is
    ∙ ap (prefix_len is_white) (reverse-append e.front (e.last ∷ []))
    ∙ ap (λ b. cond b (1 + prefix_len is_white (reverse e.front)) 0) e.full

end_stays : (text : List ℕ) → EndsFull text → trim_end_white text ≡ text
end_stays text e =
    let all : length text - suffix_len is_white text ≡ length text = omega (arith, none_at_end text e) in
    ap (λ (n : ℕ). take n text) all ∙ take_all (length text) text (omega arith)

-- white in front is left out, and nothing else
pub trimmed : (c : ℕ) (cs : List ℕ) → is_white c ≡ false → EndsFull (c ∷ cs) → trim_white (32 ∷ (c ∷ cs)) ≡ c ∷ cs
unfolding trim_white
trimmed c cs full e = ap trim_end_white (left_after_yes is_white 32 (c ∷ cs) refl ∙ left_after_no is_white c cs full) ∙ end_stays (c ∷ cs) e

pub trimmed_word : (text : List ℕ) → IsWord text → trim_white (32 ∷ text) ≡ text
trimmed_word [] w = let no : 0 < 0 = w.some in absurd (omega (arith, no))
trimmed_word (c ∷ cs) w = trimmed c cs (not-true (is_white c) (no_white c (first_so _ _ w.chars))) (word_ends (c ∷ cs) w)

pub trimmed_nothing : trim_white [] ≡ []
unfolding trim_white
trimmed_nothing = refl

-- Numbers.

of_value : (c : ℕ) → digit_value c < 10 → is_ascii_digit c ≡ true
of_value c h = grind (arith, nat_tests)

all_of_values : (cs : List ℕ) → AllDigits 10 cs → list_all is_ascii_digit cs ≡ true
all_of_values [] h = refl
all_of_values (c ∷ cs) h = both_true (of_value c h.0) (all_of_values cs h.1)

wide : (n : ℕ) → n < 2 ^ 32 → n < 2 ^ 64
wide n h = omega (arith, h)

pub digits_of_number : (n : ℕ) → n < 2 ^ 32 → list_all is_ascii_digit (decimal n) ≡ true
digits_of_number n h = all_of_values (decimal n) (decimal_is_IsNumeral n (wide n h)).0.1

pub number_is_word : (n : ℕ) → n < 2 ^ 32 → IsWord (decimal n)
number_is_word n h = record { chars = all_weaker is_ascii_digit is_qualifier_char digit_is (decimal n) (digits_of_number n h); some = decimal_nonempty n (wide n h) }

not_zero : (c : ℕ) → 48 < c → (c == 48) ≡ false
not_zero c h = grind (arith, nat_tests)

form_at : (text : List ℕ) → list_all is_ascii_digit text ≡ true → 48 < get_or text 0 0 → is_number text ≡ true
unfolding is_number
form_at [] h k = let no : 48 < 0 = k in absurd (omega (arith, no))
form_at (c ∷ cs) h k = both_true h (ap (λ b. not b || (length cs == 0)) (not_zero c k))

zero_form : is_number (48 ∷ []) ≡ true
unfolding is_number
zero_form = refl

pub number_form : (n : ℕ) → n < 2 ^ 32 → is_number (decimal n) ≡ true
number_form n h = ⊎_elim
    (λ (some : 0 < n). form_at (decimal n) (digits_of_number n h) (first_decimal n some (wide n h)))
    (λ (none : n ≤ 0). let is : n ≡ 0 = omega arith in ap is_number (ap decimal is ∙ decimal_digit 0 (omega arith)) ∙ zero_form)
    (cases_lt 0 n)

test_of : (a b : ℕ) → a ≤ b → nat_le a b ≡ true
test_of a b h = grind (arith, nat_tests)

-- a number is read back
pub number_back : (low high n : ℕ) → n < 2 ^ 32 → low ≤ n → n ≤ high → number_in low high (decimal n) ≡ Some n
unfolding number_in
number_back low high n h l k =
    let value : digits_value 10 (decimal n) ≡ n = (decimal_is_IsNumeral n (wide n h)).1 in
    rw (number_form n h, value, test_of low n l, test_of n high k) refl
