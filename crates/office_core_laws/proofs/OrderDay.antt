-- The day of an order.
use Rattle.std.proofs.Common.{◌≡◌, ℕ, ◌+◌, ◌*◌, ◌/◌, ◌%◌, ◌<◌, ◌≤◌, Bool, true, false, nat_le, List, [], ◌∷◌, ◌++◌, length, Some, pos, T, refl, ap, subst, ◌∙◌, arith, ℤ}
use Rattle.std.specs.Char.{is_ascii_digit, digit_value}
use Rattle.std.specs.List.{list_all}
use Rattle.std.specs.Str.Parse.{digits_value}
use Rattle.std.proofs.lemmas.Bool.Decides.{nat_tests}
use Rattle.jiff_core.specs.declared.civil.date.Date.{Date}
use Rattle.jiff_core.specs.Calendar.{IsYear, days_in_month}
use Rattle.jiff.specs.Words.{date_text}
use Rattle.office_mail_setup.specs.Calendar.{IsDay}
use Rattle.office_mail_setup.specs.Values.{is_day_form, IsDayText}
use Rattle.office_mail.specs.Days.{day_in}
use Rattle.office_mail.proofs.DayFacts.{day_is}
use Rattle.deb_control.specs.Relations.{is_qualifier_char}
use Rattle.office_core_laws.specs.OrderTaken.{IsFrom1970}
use Rattle.office_core_laws.proofs.OrderWords.{IsWord}

digit : (n : ℕ) → n < 10 → is_ascii_digit (48 + n) ≡ true
digit n h = grind (arith, nat_tests)

valued : (n : ℕ) → n < 10 → digit_value (48 + n) ≡ n
valued n h = grind (arith, nat_tests)

-- two digits of a number below 100
abbrev two : ℕ → List ℕ
two n = (48 + n / 10) ∷ (48 + n % 10) ∷ []

high : (n : ℕ) → n < 100 → n / 10 < 10
high n h = omega (arith, h)

low : (n : ℕ) → n % 10 < 10
low n = omega arith

two_digits : (n : ℕ) → n < 100 → list_all is_ascii_digit (two n) ≡ true
two_digits n h = rw (digit (n / 10) (high n h), digit (n % 10) (low n)) refl

two_value : (n : ℕ) → n < 100 → digits_value 10 (two n) ≡ n
two_value n h =
    let a = valued (n / 10) (high n h) in
    let b = valued (n % 10) (low n) in
    rw (a, b) (let e : (0 * 10 + n / 10) * 10 + n % 10 ≡ n = omega arith in e)

four_digits : (n : ℕ) → n < 10_000 → list_all is_ascii_digit (two (n / 100) ++ two (n % 100)) ≡ true
four_digits n h =
    let q : n / 100 < 100 = omega (arith, h) in
    let r : n % 100 < 100 = omega arith in
    rw (digit (n / 100 / 10) (high (n / 100) q), digit (n / 100 % 10) (low (n / 100)), digit (n % 100 / 10) (high (n % 100) r), digit (n % 100 % 10) (low (n % 100))) refl

four_value : (n : ℕ) → n < 10_000 → digits_value 10 (two (n / 100) ++ two (n % 100)) ≡ n
four_value n h =
    let q : n / 100 < 100 = omega (arith, h) in
    let r : n % 100 < 100 = omega arith in
    let a = valued (n / 100 / 10) (high (n / 100) q) in
    let b = valued (n / 100 % 10) (low (n / 100)) in
    let c = valued (n % 100 / 10) (high (n % 100) r) in
    let d = valued (n % 100 % 10) (low (n % 100)) in
    rw (a, b, c, d) (let e : (((0 * 10 + n / 100 / 10) * 10 + n / 100 % 10) * 10 + n % 100 / 10) * 10 + n % 100 % 10 ≡ n = omega arith in e)

abbrev text_of : ℕ → ℕ → ℕ → List ℕ
text_of y m d = (two (y / 100) ++ two (y % 100)) ++ 45 ∷ [] ++ two m ++ 45 ∷ [] ++ two d

module _ (y m d : ℕ) (year : y < 10_000) (month : m < 100) (day : d < 100) where
  abbrev text : List ℕ
  text = text_of y m d

  form : is_day_form text ≡ true
  unfolding is_day_form
  form = rw (four_digits y year, two_digits m month, two_digits d day) refl

  read_as : (date : Date) → IsDay y m d date → IsDayText text date
  read_as date is = (form, rw (four_value y year, two_value m month, two_value d day) is)

yes : (b : Bool) → T b → b ≡ true
yes true t = refl
yes false t = absurd t

upper : (z : ℤ) (y : ℕ) → z ≡ pos y → IsYear z → nat_le y 9_999 ≡ true
upper z y e is = let at : IsYear (pos y) = subst IsYear e is in yes (nat_le y 9_999) at.1.le

small_month : (z : ℤ) (m : ℕ) → days_in_month z m ≤ 31
small_month z m = grind (arith, nat_tests)

mark : (n : ℕ) → n < 10 → is_qualifier_char (48 + n) ≡ true
mark n h = grind (arith, nat_tests)

chars_at : (y m d : ℕ) → y < 10_000 → m < 100 → d < 100 → list_all is_qualifier_char (text_of y m d) ≡ true
chars_at y m d year month day =
    let q : y / 100 < 100 = omega (arith, year) in
    let r : y % 100 < 100 = omega arith in
    rw (
      mark (y / 100 / 10) (high (y / 100) q),
      mark (y / 100 % 10) (low (y / 100)),
      mark (y % 100 / 10) (high (y % 100) r),
      mark (y % 100 % 10) (low (y % 100)),
      mark (m / 10) (high m month),
      mark (m % 10) (low m),
      mark (d / 10) (high d day),
      mark (d % 10) (low d),
    ) refl

below : (day : Date) (from : IsFrom1970 day) → (from.year < 10_000) × (day.month < 100) × (day.day < 100)
below day from =
    let top : nat_le from.year 9_999 ≡ true = upper day.year from.year from.is day.year_in in
    let year : from.year < 10_000 = grind (arith, nat_tests) in
    (year, omega (arith, day.month_in.0, day.month_in.1), omega (arith, day.day_in.1, small_month day.year day.month))

-- its text is a word of ten characters
pub day_word : (day : Date) → IsFrom1970 day → IsWord (date_text day) × (length (date_text day) ≡ 10)
day_word day from =
    let small = below day from in
    rw from.is (record { chars = chars_at from.year day.month day.day small.0 small.1 small.2; some = omega arith }, refl)

pub day_reads : (day : Date) → IsFrom1970 day → day_in (date_text day) ≡ Some day
day_reads day from =
    let small = below day from in
    let reads : IsDayText (text_of from.year day.month day.day) day = read_as from.year day.month day.day small.0 small.1 small.2 day (from.low, (from.is, refl, refl)) in
    let written : date_text day ≡ text_of from.year day.month day.day = rw from.is refl in
    ap day_in written ∙ (day_is (text_of from.year day.month day.day) day).1 reads
