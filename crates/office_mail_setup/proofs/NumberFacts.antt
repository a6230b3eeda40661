-- Numbers of texts.
use Rattle.std.proofs.Common.{◌≡◌, ℕ, ◌^◌, ◌<◌, ◌≤◌, Bool, true, false, ◌&&◌, ◌==◌, cond, nat_le, List, [], ◌∷◌, drop, Option, Some, None, refl, sym, ap, ◌∙◌, arith}
use Rattle.std.specs.Cmp.{first_so, second_so}
use Rattle.std.specs.Char.{is_ascii_digit, digit_value}
use Rattle.std.specs.List.{list_all}
use Rattle.std.specs.Str.Parse.{digits_value, without_leading_plus, IsNumeral, AllDigits}
use Rattle.std.proofs.lemmas.Bool.Decides.{nat_tests}
use Rattle.office_mail_setup.specs.Values.{some_if, is_number, number_in}

small_digit : (c : ℕ) → is_ascii_digit c ≡ true → digit_value c < 10
small_digit c h = grind (arith, nat_tests)

no_plus : (c : ℕ) → is_ascii_digit c ≡ true → (c == 43) ≡ false
no_plus c h = grind (arith, nat_tests)

all_digits : (cs : List ℕ) → list_all is_ascii_digit cs ≡ true → AllDigits 10 cs
all_digits [] h = tt
all_digits (c ∷ cs) h = (small_digit c (first_so _ _ h), all_digits cs (second_so _ _ h))

plain : (text : List ℕ) → is_number text ≡ true → without_leading_plus text ≡ text
unfolding is_number
plain [] h = absurd (cc)
plain (c ∷ cs) h = ap (λ b. drop (cond b 1 0) (c ∷ cs)) (no_plus c (first_so _ _ (first_so _ _ h)))

numeral : (text : List ℕ) → is_number text ≡ true → IsNumeral 10 text
unfolding is_number
numeral [] h = absurd (cc)
numeral (c ∷ cs) h = (omega arith, all_digits (c ∷ cs) (first_so _ _ h))

pub number_ok : (text : List ℕ) (low high v : ℕ) → is_number text ≡ true → v ≡ digits_value 10 (without_leading_plus text) → some_if (nat_le low v && nat_le v high) v ≡ number_in low high text
unfolding number_in
number_ok text low high v ok h =
    ap (λ n. some_if (nat_le low n && nat_le n high) n) (h ∙ ap (digits_value 10) (plain text ok))
    ∙ sym (ap (λ b. some_if (b && nat_le low (digits_value 10 text) && nat_le (digits_value 10 text) high) (digits_value 10 text)) ok)

off : (a b c : Bool) (v : ℕ) → c ≡ false → some_if (a && b && c) v ≡ None
off true true c v e = ap (λ c. some_if c v) e
off true false c v e = refl
off false b c v e = refl

above : (n high : ℕ) → high < 2 ^ 32 → (n < 2 ^ 32 → ⊥) → nat_le n high ≡ false
above n high h big = grind (arith, nat_tests)

pub number_err : (text : List ℕ) (low high : ℕ) → is_number text ≡ true → high < 2 ^ 32 → (IsNumeral 10 (without_leading_plus text) × (digits_value 10 (without_leading_plus text) < 2 ^ 32) → ⊥) → None ≡ number_in low high text
unfolding number_in
number_err text low high ok h never =
    let same = plain text ok in
    sym (off (is_number text) (nat_le low (digits_value 10 text)) (nat_le (digits_value 10 text) high) (digits_value 10 text)
    (above (digits_value 10 text) high h (λ small. (rw same at never) (numeral text ok, small))))

only_if : (b : Bool) (v n : ℕ) → ◌≡◌ {A = Option ℕ} (Some n) (some_if b v) → (b ≡ true) × (n ≡ v)
only_if true v n e = (refl, cc)
only_if false v n e = absurd (cc)

test_low : (n low : ℕ) → nat_le low n ≡ true → low ≤ n
test_low n low e = grind (arith, nat_tests)

-- a number that is read is within its range
pub number_range : (low high n : ℕ) (text : List ℕ) → Some n ≡ number_in low high text → (low ≤ n) × (n ≤ high)
unfolding number_in
number_range low high n text e =
    let b = only_if (is_number text && nat_le low (digits_value 10 text) && nat_le (digits_value 10 text) high) (digits_value 10 text) n e in
    let l : low ≤ digits_value 10 text = test_low (digits_value 10 text) low (second_so _ _ (first_so _ _ b.0)) in
    let h : digits_value 10 text ≤ high = test_low high (digits_value 10 text) (second_so _ _ b.0) in
    (omega (arith, b.1, l), omega (arith, b.1, h))
