-- Numbers in requests.
use Rattle.std.proofs.Common.{◌≡◌, ℕ, zero, suc, ◌^◌, ◌<◌, ◌≤◌, Bool, true, false, ◌==◌, cond, nat_le, nat_lt, List, [], ◌∷◌, drop, Option, Some, None, refl, sym, ap, subst, ◌∙◌, arith}
use Rattle.std.specs.Cmp.{first_so, second_so}
use Rattle.std.specs.Char.{is_ascii_digit, digit_value}
use Rattle.std.specs.List.{list_all}
use Rattle.std.specs.Str.{IsAscii, IsUtf8}
use Rattle.std.specs.Str.Parse.{digits_value, without_leading_plus, IsNumeral, AllDigits}
use Rattle.std.proofs.lemmas.Bool.Decides.{nat_tests}
use Rattle.std.proofs.lemmas.Str.{IsUtf8-from_ascii}
use Rattle.office_http_requests.specs.declared.request.Stated.TheVariants.{Bad, TooLong, Exactly}
use Rattle.office_http_requests.specs.Asked.{are_digits, number_under, number_stated}

small_digit : (c : ℕ) → is_ascii_digit c ≡ true → digit_value c < 10
small_digit c h = grind (arith, nat_tests)

ascii_digit : (c : ℕ) → is_ascii_digit c ≡ true → c < 128
ascii_digit c h = grind (arith, nat_tests)

no_plus : (c : ℕ) → is_ascii_digit c ≡ true → (c == 43) ≡ false
no_plus c h = grind (arith, nat_tests)

all_digits : (cs : List ℕ) → list_all is_ascii_digit cs ≡ true → AllDigits 10 cs
all_digits [] h = tt
all_digits (c ∷ cs) h = (small_digit c (first_so _ _ h), all_digits cs (second_so _ _ h))

all_ascii : (cs : List ℕ) → list_all is_ascii_digit cs ≡ true → IsAscii cs
all_ascii [] h i = omega arith
all_ascii (c ∷ cs) h zero = ascii_digit c (first_so _ _ h)
all_ascii (c ∷ cs) h (suc i) = all_ascii cs (second_so _ _ h) i

utf8_of : (text : List ℕ) → are_digits text ≡ true → IsUtf8 text
unfolding are_digits
utf8_of [] h = absurd (cc)
utf8_of (c ∷ cs) h = IsUtf8-from_ascii (c ∷ cs) (all_ascii (c ∷ cs) h)

pub never_else : (text : List ℕ) → are_digits text ≡ true → (IsUtf8 text → ⊥) → ⊥
never_else text h bad = bad (utf8_of text h)

plain : (text : List ℕ) → are_digits text ≡ true → without_leading_plus text ≡ text
unfolding are_digits
plain [] h = absurd (cc)
plain (c ∷ cs) h = ap (λ b. drop (cond b 1 0) (c ∷ cs)) (no_plus c (first_so _ _ h))

numeral : (text : List ℕ) → are_digits text ≡ true → IsNumeral 10 text
unfolding are_digits
numeral [] h = absurd (cc)
numeral (c ∷ cs) h = (omega arith, all_digits (c ∷ cs) h)

below : (n m : ℕ) → n < m → nat_lt n m ≡ true
below n m h = grind (arith, nat_tests)

not_below : (n m : ℕ) → (n < m → ⊥) → nat_lt n m ≡ false
not_below n m h = grind (arith, nat_tests)

pub number_ok : (text : List ℕ) (v : ℕ) → are_digits text ≡ true → (IsNumeral 10 (without_leading_plus text) × (digits_value 10 (without_leading_plus text) < 2 ^ 32)) × (v ≡ digits_value 10 (without_leading_plus text)) → Some v ≡ number_under text
unfolding number_under
number_ok text v ok h =
    let same = plain text ok in
    let small : digits_value 10 text < 2 ^ 32 = subst (λ (t : List ℕ). digits_value 10 t < 2 ^ 32) same h.0.1 in
    ap Some (h.1 ∙ ap (digits_value 10) same) ∙ sym (ap (λ b. cond b (Some (digits_value 10 text)) None) (below (digits_value 10 text) (2 ^ 32) small))

pub number_err : (text : List ℕ) → are_digits text ≡ true → (IsNumeral 10 (without_leading_plus text) × (digits_value 10 (without_leading_plus text) < 2 ^ 32) → ⊥) → None ≡ number_under text
unfolding number_under
number_err text ok never =
    let same = plain text ok in
    let big : digits_value 10 text < 2 ^ 32 → ⊥ = λ small. never (subst (IsNumeral 10) (sym same) (numeral text ok), subst (λ (t : List ℕ). digits_value 10 t < 2 ^ 32) (sym same) small) in
    sym (ap (λ b. cond b (Some (digits_value 10 text)) None) (not_below (digits_value 10 text) (2 ^ 32) big))

pub stated_bad : (text : List ℕ) → are_digits text ≡ false → Bad ≡ number_stated text
unfolding number_stated
stated_bad text h = sym (ap (λ b. cond b (cond (nat_le (digits_value 10 text) 65_536) (Exactly (digits_value 10 text)) TooLong) Bad) h)

stated_good : (text : List ℕ) → are_digits text ≡ true → number_stated text ≡ cond (nat_le (digits_value 10 text) 65_536) (Exactly (digits_value 10 text)) TooLong
unfolding number_stated
stated_good text h = ap (λ b. cond b (cond (nat_le (digits_value 10 text) 65_536) (Exactly (digits_value 10 text)) TooLong) Bad) h

within_by : (b : Bool) (n v : ℕ) → ◌≡◌ {A = Option ℕ} (Some n) (cond b (Some v) None) → n ≡ v
within_by true n v e = cc
within_by false n v e = absurd (cc)

past_by : (b : Bool) (v : ℕ) → ◌≡◌ {A = Option ℕ} None (cond b (Some v) None) → b ≡ false
past_by true v e = absurd (cc)
past_by false v e = refl

at_most : (n m : ℕ) → n ≤ m → nat_le n m ≡ true
at_most n m h = grind (arith, nat_tests)

past : (n m : ℕ) → (n ≤ m → ⊥) → nat_le n m ≡ false
past n m h = grind (arith, nat_tests)

large : (n : ℕ) → nat_lt n (2 ^ 32) ≡ false → nat_le n 65_536 ≡ false
large n h = grind (arith, nat_tests)

pub stated_exactly : (text : List ℕ) (n : ℕ) → are_digits text ≡ true → Some n ≡ number_under text → n ≤ 65_536 → Exactly n ≡ number_stated text
unfolding number_under
stated_exactly text n h e small =
    let is : n ≡ digits_value 10 text = within_by (nat_lt (digits_value 10 text) (2 ^ 32)) n (digits_value 10 text) e in
    ap Exactly is ∙ sym (stated_good text h ∙ ap (λ b. cond b (Exactly (digits_value 10 text)) TooLong) (at_most (digits_value 10 text) 65_536 (subst (λ k. k ≤ 65_536) is small)))

pub stated_long : (text : List ℕ) (n : ℕ) → are_digits text ≡ true → Some n ≡ number_under text → (n ≤ 65_536 → ⊥) → TooLong ≡ number_stated text
unfolding number_under
stated_long text n h e big =
    let is : n ≡ digits_value 10 text = within_by (nat_lt (digits_value 10 text) (2 ^ 32)) n (digits_value 10 text) e in
    sym (stated_good text h ∙ ap (λ b. cond b (Exactly (digits_value 10 text)) TooLong) (past (digits_value 10 text) 65_536 (λ small. big (subst (λ k. k ≤ 65_536) (sym is) small))))

pub stated_huge : (text : List ℕ) → are_digits text ≡ true → None ≡ number_under text → TooLong ≡ number_stated text
unfolding number_under
stated_huge text h e =
    sym (stated_good text h ∙ ap (λ b. cond b (Exactly (digits_value 10 text)) TooLong) (large (digits_value 10 text) (past_by (nat_lt (digits_value 10 text) (2 ^ 32)) (digits_value 10 text) e)))
