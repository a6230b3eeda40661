-- Numbers of texts.
use Rattle.std.proofs.Common.{◌≡◌, ◌^◌, ◌<◌, ℕ, Bool, true, false, nat_lt, List, [], ◌∷◌, length, Some, None, refl, ap, lt-ltb, ltb-true}
use Rattle.std.proofs.lemmas.Bool.{and_parts}
use Rattle.std.specs.Char.{digit_value}
use Rattle.std.specs.List.{list_all}
use Rattle.std.specs.Str.Parse.{AllDigits, IsNumeral, digits_value, without_leading_plus}
use Rattle.office_cli_words.specs.Asked.{is_number, number_in}

digits_pass : (ds : List ℕ) → AllDigits 10 ds → list_all (λ d. nat_lt (digit_value d) 10) ds ≡ true
digits_pass [] h = refl
digits_pass (d ∷ ds) h = rw (lt-ltb (digit_value d) 10 h.0) (digits_pass ds h.1)

digits_from : (ds : List ℕ) → list_all (λ d. nat_lt (digit_value d) 10) ds ≡ true → AllDigits 10 ds
digits_from [] e = tt
digits_from (d ∷ ds) e =
    let parts = and_parts _ _ e in
    (ltb-true _ _ parts.0, digits_from ds parts.1)

pub number_read : (text : List ℕ) (n : ℕ) → IsNumeral 10 (without_leading_plus text) × (digits_value 10 (without_leading_plus text) < 2 ^ 32)
    → n ≡ digits_value 10 (without_leading_plus text) → Some n ≡ number_in text
number_read text n h same =
    let ds = without_leading_plus text in
    rw (lt-ltb 0 (length ds) h.0.0, digits_pass ds h.0.1, lt-ltb (digits_value 10 ds) (2 ^ 32) h.1) (ap (λ (v : ℕ). Some v) same)

pub none_read : (text : List ℕ) → (IsNumeral 10 (without_leading_plus text) × (digits_value 10 (without_leading_plus text) < 2 ^ 32) → ⊥) → None ≡ number_in text
none_read text never = go (is_number (without_leading_plus text)) refl
  where
    go : (b : Bool) → is_number (without_leading_plus text) ≡ b → None ≡ number_in text
    go false t = rw t refl
    go true t =
        let outer = and_parts _ _ t in
        let inner = and_parts _ _ outer.0 in
        absurd (never ((ltb-true _ _ inner.0, digits_from (without_leading_plus text) inner.1), ltb-true _ _ outer.1))
