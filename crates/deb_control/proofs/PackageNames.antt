-- The name of a package, by the characters in front.
use Rattle.std.proofs.Common.{◌≡◌, ℕ, zero, suc, ◌+◌, ◌<◌, ◌≤◌, true, false, cond, not, nat_le, ◌&&◌, ◌||◌, ◌==◌, List, [], ◌∷◌, length, take, slice_index, sym, ap, ◌∙◌, ⊎_elim, arith, eqb-true, eq-eqb, true≢false}
use Rattle.std.specs.List.{list_all, prefix_len, take_while, position_or_len, before_first}
use Rattle.std.proofs.lemmas.Bool.{cases_Bool, cases_lt, or_left, or_right}
use Rattle.std.proofs.lemmas.Bool.Decides.{nat_tests}
use Rattle.std.proofs.lemmas.List.{get_or-take, length-take-le}
use Rattle.std.proofs.lemmas.List.Sums.{prefix_len-le-length, prefix_len_is, prefix_len_passes, position_or_len_is, passes_at_first, AllPass-from_list_all}
use Rattle.deb_control.specs.Relations.{is_lower_or_digit, is_package_char, is_package_name, ends_name}
use Rattle.deb_control.specs.steps.ClauseSteps.{is_package}
use Rattle.deb_control.proofs.Split.{take_while_yes}
use Rattle.deb_control.proofs.Names.{three, all_three, all_in_front}

goes_on : (c : ℕ) → is_package_char c ≡ true → ends_name c ≡ false
goes_on c h = grind (arith, nat_tests)

stops : (c : ℕ) → ends_name c ≡ true → is_package_char c ≡ false
stops c h = ⊎_elim
    (λ (yes : is_package_char c ≡ true). absurd (true≢false (sym h ∙ goes_on c yes)))
    (λ (other : is_package_char c ≡ false). other)
    (cases_Bool (is_package_char c))

lower_is_char : (c : ℕ) → is_lower_or_digit c ≡ true → is_package_char c ≡ true
lower_is_char c h = grind (arith, nat_tests)

end_or_not : (text : List ℕ) (n : ℕ) → (n == length text || ends_name (slice_index text n)) ≡ true → n < length text → ends_name (slice_index text n) ≡ true
end_or_not text n h within = ⊎_elim
    (λ (over : (n == length text) ≡ true). let e = eqb-true n (length text) over in absurd (omega (arith, e)))
    (λ (other : (n == length text) ≡ false). ap (λ b. b || ends_name (slice_index text n)) (sym other) ∙ h)
    (cases_Bool (n == length text))

-- the characters in front are a package name
front_is_package : (text : List ℕ) → 2 ≤ prefix_len is_package_char text → is_lower_or_digit (slice_index text 0) ≡ true → is_package_name (take_while is_package_char text) ≡ true
unfolding is_package_name
front_is_package [] long lower = absurd (omega arith)
front_is_package (c ∷ cs) long lower =
    let yes = lower_is_char c lower in
    let len : prefix_len is_package_char (c ∷ cs) ≡ 1 + prefix_len is_package_char cs = ap (λ b. cond b (1 + prefix_len is_package_char cs) 0) yes in
    let rest : length (take_while is_package_char cs) ≡ prefix_len is_package_char cs = length-take-le (prefix_len is_package_char cs) cs (prefix_len-le-length is_package_char cs) in
    ap is_package_name (take_while_yes is_package_char c cs yes)
    ∙ all_three (is_lower_or_digit c) (nat_le 1 (length (take_while is_package_char cs))) (list_all is_package_char (take_while is_package_char cs)) lower (grind (arith, nat_tests)) (all_in_front is_package_char cs)

-- where they end as a name does, they are the name
pub good_package : (text : List ℕ) (n : ℕ) → n ≡ prefix_len is_package_char text → is_package text n ≡ true → (position_or_len ends_name text ≡ n) × (is_package_name (take n text) ≡ true)
good_package text n at named =
    let parts = three (nat_le 2 n) (is_lower_or_digit (slice_index text 0)) (n == length text || ends_name (slice_index text n)) named in
    let long : 2 ≤ n = let h = parts.0 in grind (arith, nat_tests) in
    let short : n ≤ length text = omega (arith, at, prefix_len-le-length is_package_char text) in (
      position_or_len_is ends_name text n 0 short (λ k below. goes_on (slice_index text k) (prefix_len_passes is_package_char text k 0 (omega (arith, at, below)))) (λ within. end_or_not text n parts.2 within),
      ap (λ (k : ℕ). is_package_name (take k text)) at ∙ front_is_package text (omega (arith, at, long)) parts.1,
    )

chars_of : (name : List ℕ) → is_package_name name ≡ true → list_all is_package_char name ≡ true
unfolding is_package_name
chars_of [] h = absurd cc
chars_of (c ∷ cs) h =
    let parts = three (is_lower_or_digit c) (nat_le 1 (length cs)) (list_all is_package_char cs) h in
    ap (λ b. b && list_all is_package_char cs) (lower_is_char c parts.0) ∙ parts.2

long_of : (name : List ℕ) → is_package_name name ≡ true → 2 ≤ length name
unfolding is_package_name
long_of [] h = absurd cc
long_of (c ∷ cs) h = let more = (three (is_lower_or_digit c) (nat_le 1 (length cs)) (list_all is_package_char cs) h).1 in grind (arith, nat_tests)

first_of : (text : List ℕ) (n : ℕ) → is_package_name (take n text) ≡ true → is_lower_or_digit (slice_index text 0) ≡ true
unfolding is_package_name
first_of [] zero h = absurd cc
first_of [] (suc n) h = absurd cc
first_of (c ∷ cs) zero h = absurd cc
first_of (c ∷ cs) (suc n) h = (three (is_lower_or_digit c) (nat_le 1 (length (take n cs))) (list_all is_package_char (take n cs)) h).0

named_at : (text : List ℕ) (n : ℕ) → n ≡ prefix_len is_package_char text → is_package_name (before_first ends_name text) ≡ true → is_package text n ≡ true
named_at text n at good =
    let m = position_or_len ends_name text in
    let short : m ≤ length text = prefix_len-le-length (λ c. not (ends_name c)) text in
    let len : length (take m text) ≡ m = length-take-le m text short in
    let inside = AllPass-from_list_all is_package_char (take m text) (chars_of (take m text) good) in
    let same : prefix_len is_package_char text ≡ m = prefix_len_is is_package_char text m 0 short
    (λ k below. ap is_package_char (sym (get_or-take m text k 0 below)) ∙ inside k 0 (omega (arith, len, below)))
    (λ within. stops (slice_index text m) (passes_at_first ends_name text 0 within)) in
    let long = long_of (take m text) good in
    let ends : (m == length text || ends_name (slice_index text m)) ≡ true = ⊎_elim
    (λ (within : m < length text). or_right (m == length text) _ (passes_at_first ends_name text 0 within))
    (λ (over : length text ≤ m). or_left (m == length text) _ (eq-eqb m (length text) (omega (arith, short, over))))
    (cases_lt m (length text)) in
    ap (is_package text) (at ∙ same) ∙ all_three (nat_le 2 m) (is_lower_or_digit (slice_index text 0)) (m == length text || ends_name (slice_index text m)) (grind (arith, nat_tests)) (first_of text m good) ends

-- else no package name stands in front
pub bad_package : (text : List ℕ) (n : ℕ) → n ≡ prefix_len is_package_char text → is_package text n ≡ false → is_package_name (before_first ends_name text) ≡ false
bad_package text n at other = ⊎_elim
    (λ (yes : is_package_name (before_first ends_name text) ≡ true). absurd (true≢false (sym (named_at text n at yes) ∙ other)))
    (λ (h : is_package_name (before_first ends_name text) ≡ false). h)
    (cases_Bool (is_package_name (before_first ends_name text)))
