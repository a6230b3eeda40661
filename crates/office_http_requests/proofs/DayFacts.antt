-- The days of paths.
use Rattle.std.proofs.Common.{◌≡◌, ℕ, zero, suc, ◌<◌, ◌==◌, Bool, true, false, List, [], ◌∷◌, None, refl, arith}
use Rattle.std.specs.Char.{is_ascii_digit}
use Rattle.std.specs.Cmp.{first_so, second_so}
use Rattle.std.specs.List.{list_all}
use Rattle.std.specs.Prelude.{slice_index}
use Rattle.std.specs.Str.{IsAscii, IsUtf8}
use Rattle.std.proofs.lemmas.Bool.Decides.{nat_tests}
use Rattle.std.proofs.lemmas.Str.{IsAscii-append, IsUtf8-from_ascii}
use Rattle.office_mail_setup.specs.Values.{is_day_form}
use Rattle.office_mail_setup.specs.steps.Values.{DayForm}
use Rattle.office_mail.specs.Days.{day_in}
use Rattle.office_mail.proofs.DayFacts.{none_in}
use Rattle.office_mail_setup.proofs.DayFacts.{form_of}

digit_ascii : (c : ℕ) → is_ascii_digit c ≡ true → c < 128
digit_ascii c h = grind (arith, nat_tests)

digits_ascii : (cs : List ℕ) → list_all is_ascii_digit cs ≡ true → IsAscii cs
digits_ascii [] h i = omega arith
digits_ascii (c ∷ cs) h zero = digit_ascii c (first_so _ _ h)
digits_ascii (c ∷ cs) h (suc i) = digits_ascii cs (second_so _ _ h) i

hyphen_ascii : (c : ℕ) → (c == 45) ≡ true → IsAscii (c ∷ [])
hyphen_ascii c h zero = grind (arith, nat_tests)
hyphen_ascii c h (suc i) = omega arith

-- between its parts stand hyphens
hyphens_of : (text : List ℕ) → is_day_form text ≡ true → ((slice_index text 4 == 45) ≡ true) × ((slice_index text 7 == 45) ≡ true)
unfolding is_day_form
hyphens_of text is =
    let three = first_so _ _ (first_so _ _ (first_so _ _ is)) in
    (second_so _ _ (first_so _ _ three), second_so _ _ three)

-- a day's text is ten bytes of ASCII
ten_ascii : (text : List ℕ) → DayForm text → (slice_index text 4 == 45) ≡ true → (slice_index text 7 == 45) ≡ true → IsAscii text
ten_ascii [] form first second = absurd (omega (arith, form.size))
ten_ascii (a ∷ []) form first second = absurd (omega (arith, form.size))
ten_ascii (a ∷ b ∷ []) form first second = absurd (omega (arith, form.size))
ten_ascii (a ∷ b ∷ c ∷ []) form first second = absurd (omega (arith, form.size))
ten_ascii (a ∷ b ∷ c ∷ d ∷ []) form first second = absurd (omega (arith, form.size))
ten_ascii (a ∷ b ∷ c ∷ d ∷ e ∷ []) form first second = absurd (omega (arith, form.size))
ten_ascii (a ∷ b ∷ c ∷ d ∷ e ∷ f ∷ []) form first second = absurd (omega (arith, form.size))
ten_ascii (a ∷ b ∷ c ∷ d ∷ e ∷ f ∷ g ∷ []) form first second = absurd (omega (arith, form.size))
ten_ascii (a ∷ b ∷ c ∷ d ∷ e ∷ f ∷ g ∷ h ∷ []) form first second = absurd (omega (arith, form.size))
ten_ascii (a ∷ b ∷ c ∷ d ∷ e ∷ f ∷ g ∷ h ∷ i ∷ []) form first second = absurd (omega (arith, form.size))
ten_ascii (a ∷ b ∷ c ∷ d ∷ e ∷ f ∷ g ∷ h ∷ i ∷ j ∷ k ∷ more) form first second = absurd (omega (arith, form.size))
ten_ascii (a ∷ b ∷ c ∷ d ∷ e ∷ f ∷ g ∷ h ∷ i ∷ j ∷ []) form first second =
    IsAscii-append (a ∷ b ∷ c ∷ d ∷ []) (e ∷ f ∷ g ∷ h ∷ i ∷ j ∷ []) (digits_ascii (a ∷ b ∷ c ∷ d ∷ []) form.year)
    (IsAscii-append (e ∷ []) (f ∷ g ∷ h ∷ i ∷ j ∷ []) (hyphen_ascii e first)
    (IsAscii-append (f ∷ g ∷ []) (h ∷ i ∷ j ∷ []) (digits_ascii (f ∷ g ∷ []) form.month)
    (IsAscii-append (h ∷ []) (i ∷ j ∷ []) (hyphen_ascii h second) (digits_ascii (i ∷ j ∷ []) form.day))))

form_ascii : (text : List ℕ) → is_day_form text ≡ true → IsAscii text
form_ascii text is = let hyphens = hyphens_of text is in ten_ascii text (form_of text is) hyphens.0 hyphens.1

-- a text that isn't UTF-8 is no day
pub never_day : (text : List ℕ) → (IsUtf8 text → ⊥) → day_in text ≡ None
never_day text bad = go (is_day_form text) refl
  where
    go : (b : Bool) → is_day_form text ≡ b → day_in text ≡ None
    go true is = absurd (bad (IsUtf8-from_ascii text (form_ascii text is)))
    go false is = none_in text is
