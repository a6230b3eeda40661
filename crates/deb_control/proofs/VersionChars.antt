-- The characters of a version: no white, no `)`, and no sign of a relation is among them.
use Rattle.std.proofs.Common.{◌≡◌, ◌==◌, ℕ, Bool, true, false, not, nat_lt, ◌&&◌, ◌||◌, ◌^◌, List, [], ◌∷◌, length, is_none, refl, sym, ap, ◌∙◌, ⊎_elim, arith}
use Rattle.std.specs.Char.{is_ascii_digit}
use Rattle.std.specs.List.{list_all, after_first, before_last, after_last}
use Rattle.std.specs.Str.Parse.{digits_value}
use Rattle.std.proofs.lemmas.Bool.{cases_Bool, cond-true, cond-false, and_parts}
use Rattle.std.proofs.lemmas.Bool.Decides.{nat_tests}
use Rattle.deb_version.specs.Text.{is_colon, is_hyphen, has_epoch, epoch_text, is_epoch, after_epoch, has_revision, upstream_of, revision_of, is_revision_byte, is_upstream_byte, version_fault}
use Rattle.deb_version.specs.steps.Split.{first_fault, upstream_in, revision_in, has_bad_epoch, has_bad_byte}
use Rattle.deb_control.specs.Text.{is_white}
use Rattle.deb_control.specs.Relations.{is_version, ends_version}
use Rattle.deb_control.proofs.Fronts.{pass_wider, pass_round_first, pass_round_last}

-- a text without a fault passes each test
no_fault : (empty too_long bad_epoch empty_upstream empty_revision bad_byte : Bool) → is_none (first_fault empty too_long bad_epoch empty_upstream empty_revision bad_byte) ≡ true → (bad_epoch ≡ false) × (bad_byte ≡ false)
unfolding first_fault
no_fault true t e u r b h = cc
no_fault false true e u r b h = cc
no_fault false false true u r b h = cc
no_fault false false false true r b h = cc
no_fault false false false false true b h = cc
no_fault false false false false false true h = cc
no_fault false false false false false false h = (refl, refl)

not_false : (b : Bool) → not b ≡ false → b ≡ true
not_false true h = refl
not_false false h = cc

revision_in_upstream : (c : ℕ) → is_revision_byte c ≡ true → is_upstream_byte c ≡ true
revision_in_upstream c h = grind (arith, nat_tests)

digit_in_upstream : (c : ℕ) → is_ascii_digit c ≡ true → is_upstream_byte c ≡ true
digit_in_upstream c h = grind (arith, nat_tests)

hyphen_in_upstream : (c : ℕ) → is_hyphen c ≡ true → is_upstream_byte c ≡ true
hyphen_in_upstream c h = grind (arith, nat_tests)

colon_in_upstream : (c : ℕ) → is_colon c ≡ true → is_upstream_byte c ≡ true
colon_in_upstream c h = grind (arith, nat_tests)

-- upstream version and revision pass, so what they are cut from does
rest_passes : (rest : List ℕ) → list_all is_upstream_byte (upstream_in rest) ≡ true → list_all is_revision_byte (revision_in rest) ≡ true → list_all is_upstream_byte rest ≡ true
rest_passes rest upstream revision = ⊎_elim
    (λ (yes : has_revision rest ≡ true). pass_round_last is_hyphen is_upstream_byte hyphen_in_upstream rest
    (ap (list_all is_upstream_byte) (sym (cond-true (has_revision rest) (before_last is_hyphen rest) rest yes)) ∙ upstream)
    (pass_wider is_upstream_byte is_revision_byte revision_in_upstream (after_last is_hyphen rest)
    (ap (list_all is_revision_byte) (sym (cond-true (has_revision rest) (after_last is_hyphen rest) (48 ∷ []) yes)) ∙ revision)))
    (λ (no : has_revision rest ≡ false). ap (list_all is_upstream_byte) (sym (cond-false (has_revision rest) (before_last is_hyphen rest) rest no)) ∙ upstream)
    (cases_Bool (has_revision rest))

-- an epoch's text and the rest pass, so the whole does
whole_passes : (text : List ℕ) → has_bad_epoch text ≡ false → list_all is_upstream_byte (after_epoch text) ≡ true → list_all is_upstream_byte text ≡ true
unfolding after_epoch
whole_passes text good rest = ⊎_elim
    (λ (yes : has_epoch text ≡ true).
    let epoch : is_epoch (epoch_text text) ≡ true = not_false (is_epoch (epoch_text text)) (ap (λ b. b && not (is_epoch (epoch_text text))) (sym yes) ∙ good) in
    let front = and_parts (not (length (epoch_text text) == 0) && list_all is_ascii_digit (epoch_text text)) (nat_lt (digits_value 10 (epoch_text text)) (2 ^ 31)) epoch in
    let digits = and_parts (not (length (epoch_text text) == 0)) (list_all is_ascii_digit (epoch_text text)) front.0 in
    pass_round_first is_colon is_upstream_byte colon_in_upstream text
    (pass_wider is_upstream_byte is_ascii_digit digit_in_upstream (epoch_text text) digits.1)
    (ap (list_all is_upstream_byte) (sym (cond-true (has_epoch text) (after_first is_colon text) text yes)) ∙ rest))
    (λ (no : has_epoch text ≡ false). ap (list_all is_upstream_byte) (sym (cond-false (has_epoch text) (after_first is_colon text) text no)) ∙ rest)
    (cases_Bool (has_epoch text))

-- each character of a version is one that an upstream version may have
pub version_passes : (text : List ℕ) → is_version text ≡ true → list_all is_upstream_byte text ≡ true
unfolding is_version version_fault first_fault upstream_of revision_of
version_passes text h =
    let tests = no_fault (length text == 0) (nat_lt 256 (length text)) (has_bad_epoch text) (length (upstream_of text) == 0) (length (revision_of text) == 0) (has_bad_byte (upstream_of text) (revision_of text)) h in
    let both = and_parts (list_all is_upstream_byte (upstream_of text)) (list_all is_revision_byte (revision_of text)) (not_false _ tests.1) in
    whole_passes text tests.0 (rest_passes (after_epoch text) both.0 both.1)

pub empty_is_no_version : is_version [] ≡ true → ⊥
unfolding is_version version_fault first_fault
empty_is_no_version h = absurd cc

-- none of them ends a version, is white or a sign
pub goes_on : (c : ℕ) → is_upstream_byte c ≡ true → not (ends_version c) ≡ true
goes_on c h = grind (arith, nat_tests)

pub is_not_white : (c : ℕ) → is_upstream_byte c ≡ true → is_white c ≡ false
is_not_white c h = grind (arith, nat_tests)

-- the characters of the signs
abbrev pub is_sign_char : ℕ → Bool
is_sign_char c = c == 60 || c == 61 || c == 62

pub is_not_sign : (c : ℕ) → is_upstream_byte c ≡ true → is_sign_char c ≡ false
is_not_sign c h = grind (arith, nat_tests)

pub white_is_not_sign : (c : ℕ) → is_white c ≡ true → is_sign_char c ≡ false
white_is_not_sign c h = grind (arith, nat_tests)
