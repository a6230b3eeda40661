-- The name of a field, by the characters in front.
use Rattle.std.proofs.Common.{◌≡◌, ℕ, zero, suc, ◌<◌, ◌≤◌, Bool, true, false, cond, not, ◌+◌, ◌&&◌, ◌==◌, List, [], ◌∷◌, length, take, slice_index, Some, refl, sym, ap, ◌∙◌, ⊎_elim, arith, eqb-true, eq-eqb, ne_eqb, true≢false}
use Rattle.std.specs.List.{list_all, prefix_len, take_while}
use Rattle.std.proofs.lemmas.Bool.{cases_Bool, cases_lt, and_parts}
use Rattle.std.proofs.lemmas.List.{get_or_past, get_or-take, length-take-le}
use Rattle.std.proofs.lemmas.List.Sums.{prefix_len_is, prefix_len_passes, AllPass-from_list_all}
use Rattle.deb_control.specs.Paragraphs.{is_name_char, is_field_name, name_in, line_fault}
use Rattle.deb_control.specs.steps.ReaderSteps.{has_colon, line_in_front, may_name, is_named, IsColonAt}
use Rattle.deb_control.specs.declared.fault.ParagraphFault.TheVariants.{NoColon, BadName}
use Rattle.deb_control.proofs.Split.{take_while_yes, take_while_no}
use Rattle.deb_control.proofs.Cuts.{NameGoesOn, colon_at}

pub three : (a b c : Bool) → (a && b && c) ≡ true → (a ≡ true) × (b ≡ true) × (c ≡ true)
three true true true h = (refl, refl, refl)
three true true false h = absurd cc
three true false c h = absurd cc
three false b c h = absurd cc

pub all_three : (a b c : Bool) → a ≡ true → b ≡ true → c ≡ true → (a && b && c) ≡ true
all_three true true true x y z = refl
all_three true true false x y z = absurd cc
all_three true false c x y z = absurd cc
all_three false b c x y z = absurd cc

-- a character of a name is no other
differs : (d : ℕ) → is_name_char d ≡ false → (c : ℕ) → is_name_char c ≡ true → (c == d) ≡ false
differs d other c h = ne_eqb c d (λ (e : c ≡ d). true≢false (sym h ∙ ap is_name_char e ∙ other))

goes_on : (whole : List ℕ) (n : ℕ) → n ≡ prefix_len is_name_char whole → NameGoesOn whole n
goes_on whole n at k below = let passes = prefix_len_passes is_name_char whole k 0 (omega (arith, at, below)) in (differs 58 refl _ passes, differs 10 refl _ passes)

pub all_in_front : (p : ℕ → Bool) (xs : List ℕ) → list_all p (take_while p xs) ≡ true
all_in_front p [] = refl
all_in_front p (x ∷ xs) = ⊎_elim
    (λ (yes : p x ≡ true). ap (list_all p) (take_while_yes p x xs yes) ∙ ap (λ b. b && list_all p (take_while p xs)) yes ∙ all_in_front p xs)
    (λ (other : p x ≡ false). ap (list_all p) (take_while_no p x xs other))
    (cases_Bool (p x))

-- the characters in front are a name where a colon follows them
front_is_name : (whole : List ℕ) → slice_index whole (prefix_len is_name_char whole) ≡ 58 → may_name whole ≡ true → is_field_name (take_while is_name_char whole) ≡ true
unfolding is_field_name
front_is_name [] colon may = absurd cc
front_is_name (c ∷ cs) colon may =
    let parts = three (not (c == 35)) (not (c == 45)) (not (c == 58)) may in
    ⊎_elim
    (λ (yes : is_name_char c ≡ true).
    ap is_field_name (take_while_yes is_name_char c cs yes)
    ∙ all_three (not (c == 35)) (not (c == 45)) _ parts.0 parts.1 (ap (λ b. b && list_all is_name_char (take_while is_name_char cs)) yes ∙ all_in_front is_name_char cs))
    (λ (other : is_name_char c ≡ false).
    let first : c ≡ 58 = ap (λ (b : Bool). slice_index (c ∷ cs) (cond b (1 + prefix_len is_name_char cs) 0)) (sym other) ∙ colon in
    absurd (true≢false (sym parts.2 ∙ ap not (eq-eqb c 58 first))))
    (cases_Bool (is_name_char c))

-- where a colon follows the characters in front, they are the name
pub good_name : (whole : List ℕ) (n : ℕ) → n ≡ prefix_len is_name_char whole → is_named whole n ≡ true → IsColonAt whole n × (is_field_name (take n whole) ≡ true)
good_name whole n at named =
    let parts = and_parts (slice_index whole n == 58) (may_name whole) named in
    let colon : slice_index whole n ≡ 58 = eqb-true _ _ parts.0 in
    let within : n < length whole = ⊎_elim
    (λ (h : n < length whole). h)
    (λ (past : length whole ≤ n). absurd (omega (arith, colon, get_or_past whole n 0 past)))
    (cases_lt n (length whole)) in (
      colon_at whole n within (goes_on whole n at) colon,
      ap (λ (k : ℕ). is_field_name (take k whole)) at ∙ front_is_name whole (ap (λ (k : ℕ). slice_index whole k) (sym at) ∙ colon) parts.1,
    )

chars_of : (name : List ℕ) → is_field_name name ≡ true → list_all is_name_char name ≡ true
unfolding is_field_name
chars_of [] h = refl
chars_of (c ∷ cs) h = (three (not (c == 35)) (not (c == 45)) (list_all is_name_char (c ∷ cs)) h).2

may_of : (whole : List ℕ) (n : ℕ) → is_field_name (take n whole) ≡ true → may_name whole ≡ true
unfolding is_field_name
may_of [] zero h = absurd cc
may_of [] (suc n) h = absurd cc
may_of (c ∷ cs) zero h = absurd cc
may_of (c ∷ cs) (suc n) h =
    let parts = three (not (c == 35)) (not (c == 45)) (list_all is_name_char (c ∷ take n cs)) h in
    let first = and_parts (is_name_char c) (list_all is_name_char (take n cs)) parts.2 in
    all_three (not (c == 35)) (not (c == 45)) (not (c == 58)) parts.0 parts.1 (ap not (differs 58 refl c first.0))

-- a good name is the characters in front
named_at : (whole : List ℕ) (n : ℕ) → IsColonAt whole n → is_field_name (take n whole) ≡ true → is_named whole (prefix_len is_name_char whole) ≡ true
named_at whole n here good =
    let len : length (take n whole) ≡ n = length-take-le n whole (omega (arith, here.within)) in
    let inside = AllPass-from_list_all is_name_char (take n whole) (chars_of (take n whole) good) in
    let same : prefix_len is_name_char whole ≡ n = prefix_len_is is_name_char whole n 0 (omega (arith, here.within))
    (λ k below. ap is_name_char (sym (get_or-take n whole k 0 below)) ∙ inside k 0 (omega (arith, len, below)))
    (λ _. ap is_name_char here.colon) in
    ap (is_named whole) same ∙ ap (λ b. b && may_name whole) (eq-eqb _ 58 here.colon) ∙ may_of whole n good

pub bad_name : (whole : List ℕ) (n : ℕ) (names : List (List ℕ)) → IsColonAt whole n → is_named whole (prefix_len is_name_char whole) ≡ false → line_fault names (line_in_front whole) ≡ Some BadName
unfolding line_fault
bad_name whole n names here other =
    let bad : is_field_name (name_in (line_in_front whole)) ≡ false = ⊎_elim
    (λ (yes : is_field_name (name_in (line_in_front whole)) ≡ true). absurd (true≢false (sym (named_at whole n here (ap is_field_name here.name ∙ yes)) ∙ other)))
    (λ (h : is_field_name (name_in (line_in_front whole)) ≡ false). h)
    (cases_Bool (is_field_name (name_in (line_in_front whole)))) in
    rw (here.has, bad) refl

pub no_name : (whole : List ℕ) (names : List (List ℕ)) → has_colon (line_in_front whole) ≡ false → line_fault names (line_in_front whole) ≡ Some NoColon
unfolding line_fault
no_name whole names h = rw h refl
