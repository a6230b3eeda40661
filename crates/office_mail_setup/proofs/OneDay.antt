-- The day with given numbers, or in a text: that there is one, and one alone.
use Rattle.std.proofs.Common.{◌≡◌, ℕ, ◌≤◌, Bool, true, false, ◌&&◌, nat_le, List, take, drop, Option, Some, None, pos, refl, sym, ap, subst, ◌∙◌, T, arith}
use Rattle.std.specs.Cmp.{first_so, second_so}
use Rattle.std.specs.Cmp.Derive.{both_true}
use Rattle.std.specs.Int.{IsInRange}
use Rattle.std.proofs.lemmas.Bool.{leb-true}
use Rattle.std.proofs.lemmas.Bool.Decides.{nat_tests}
use Rattle.jiff_core.specs.Calendar.{IsDate, IsYear, days_in_month}
use Rattle.jiff_core.specs.Date.{IsYmd, epoch_day}
use Rattle.jiff_core.specs.declared.civil.date.Date.{Date}
use Rattle.jiff.proofs.Family.{same_date}
use Rattle.std.specs.Str.Parse.{digits_value}
use Rattle.office_mail_setup.specs.Calendar.{IsDay, IsOnly}
use Rattle.office_mail_setup.specs.Values.{is_day_form, IsDayText}

-- the number is at least the low bound and at most the high one
abbrev is_between : ℕ → ℕ → ℕ → Bool
is_between low high n = nat_le low n && nat_le n high

-- the calendar has this day, and it is from 1970-01-01 to 9999-12-31
abbrev is_real_day : ℕ → ℕ → ℕ → Bool
is_real_day y m d = is_between 1_970 9_999 y && (is_between 1 12 m && is_between 1 (days_in_month (pos y) m) d)

in_range : (low high n : ℕ) → is_between low high n ≡ true → IsInRange low high n
in_range low high n e = (leb-true low n (first_so _ _ e), leb-true n high (second_so _ _ e))

year_fits : (y : ℕ) → is_between 1_970 9_999 y ≡ true → IsYear (pos y)
year_fits y e = (record { le = tt }, record { le = subst T (sym (second_so _ _ e)) tt })

-- the date of a real day
unfoldable date_of : (y m d : ℕ) → is_real_day y m d ≡ true → Date
date_of y m d e = record {
  year = pos y;
  month = m;
  day = d;
  year_in = year_fits y (first_so _ _ e);
  month_in = in_range 1 12 m (first_so _ _ (second_so _ _ e));
  day_in = in_range 1 (days_in_month (pos y) m) d (second_so _ _ (second_so _ _ e));
}

abbrev day_if : (y m d : ℕ) (real : Bool) → is_real_day y m d ≡ real → Option Date
day_if y m d true e = Some (date_of y m d e)
day_if y m d false e = None

yes : (b : Bool) → T b → b ≡ true
yes true t = refl
yes false t = absurd t

test_of : (a b : ℕ) → a ≤ b → nat_le a b ≡ true
test_of a b h = grind (arith, nat_tests)

late : (y : ℕ) → nat_le 1_970 y ≡ true → 1_970 ≤ y
late y e = leb-true 1_970 y e

pub some_same : (a b : Date) → Some a ≡ Some b → a ≡ b
some_same a b e = cc

pub months : (a b : ℕ) → pos a ≡ pos b → a ≡ b
months a b e = cc

-- a date from 1970 on has the numbers of a real day
real_by : (y m d : ℕ) (date : Date) → 1_970 ≤ y → date.year ≡ pos y → date.month ≡ m → date.day ≡ d → is_real_day y m d ≡ true
real_by y m d date low year month day =
    let top : IsYear (pos y) = subst IsYear year date.year_in in
    let in_month : IsInRange 1 12 m = subst (IsInRange 1 12) month date.month_in in
    let last : IsInRange 1 (days_in_month (pos y) date.month) date.day = subst (λ z. IsInRange 1 (days_in_month z date.month) date.day) year date.day_in in
    let in_day : IsInRange 1 (days_in_month (pos y) m) d = subst (λ n. IsInRange 1 (days_in_month (pos y) m) n) day (subst (λ n. IsInRange 1 (days_in_month (pos y) n) date.day) month last) in
    both_true (both_true (test_of 1_970 y low) (yes (nat_le y 9_999) top.1.le))
    (both_true (both_true (test_of 1 m in_month.0) (test_of m 12 in_month.1))
    (both_true (test_of 1 d in_day.0) (test_of d (days_in_month (pos y) m) in_day.1)))

holds : (b : Bool) → b ≡ true → T b
holds b e = subst T (sym e) tt

-- the calendar has the day of a date
pub is_date : (y m d : ℕ) (date : Date) → IsYmd (pos y) (pos m) (pos d) date → IsDate (pos y) (pos m) (pos d)
is_date y m d date ymd =
    let in_month : IsInRange 1 12 m = subst (IsInRange 1 12) (months _ _ ymd.1) date.month_in in
    let last : IsInRange 1 (days_in_month (pos y) date.month) date.day = subst (λ z. IsInRange 1 (days_in_month z date.month) date.day) ymd.0 date.day_in in
    let in_day : IsInRange 1 (days_in_month (pos y) m) d = subst (λ n. IsInRange 1 (days_in_month (pos y) m) n) (months _ _ ymd.2) (subst (λ n. IsInRange 1 (days_in_month (pos y) n) date.day) (months _ _ ymd.1) last) in (
      subst IsYear ymd.0 date.year_in,
      (record { le = holds _ (test_of 1 m in_month.0) }, record { le = holds _ (test_of m 12 in_month.1) }),
      (record { le = holds _ (test_of 1 d in_day.0) }, record { le = holds _ (test_of d _ in_day.1) }),
    )

same_parts : (y m d : ℕ) (e : is_real_day y m d ≡ true) (date : Date) → date.year ≡ pos y → date.month ≡ m → date.day ≡ d → epoch_day (date_of y m d e) ≡ epoch_day date
unfolding date_of
same_parts y m d e date year month day = rw (year, month, day) refl

parts : (y m d : ℕ) (e : is_real_day y m d ≡ true) → IsYmd (pos y) (pos m) (pos d) (date_of y m d e)
unfolding date_of
parts y m d e = (refl, refl, refl)

never : true ≡ false → ⊥
never e = cc

pub nothing : (date : Date) → None ≡ Some date → ⊥
nothing date e = cc

is_day : (y m d : ℕ) (real : Bool) (e : is_real_day y m d ≡ real) → IsOnly (IsDay y m d) (day_if y m d real e)
is_day y m d true e date = (
  λ (is : Some (date_of y m d e) ≡ Some date). (late y (first_so _ _ (first_so _ _ e)), subst (IsYmd (pos y) (pos m) (pos d)) (some_same _ _ is) (parts y m d e)),
  λ (has : IsDay y m d date). ap Some (same_date (date_of y m d e) date (same_parts y m d e date has.1.0 (months _ _ has.1.1) (months _ _ has.1.2))),
)
is_day y m d false e date = (
  λ (is : None ≡ Some date). absurd (nothing date is),
  λ (has : IsDay y m d date). absurd (never (sym (real_by y m d date has.0 has.1.0 (months _ _ has.1.1) (months _ _ has.1.2)) ∙ e)),
)

-- the day with these numbers
one_day : (y m d : ℕ) → (day : Option Date) × IsOnly (IsDay y m d) day
one_day y m d = (day_if y m d (is_real_day y m d) refl, is_day y m d (is_real_day y m d) refl)

-- a text of another form has no day
pub no_day : (text : List ℕ) → is_day_form text ≡ false → IsOnly (IsDayText text) None
no_day text bad date = (
  λ (is : None ≡ Some date). absurd (nothing date is),
  λ (has : IsDayText text date). absurd (never (sym has.0 ∙ bad)),
)

-- a text of the form has the day with its numbers
pub day_by : (text : List ℕ) (y m d : ℕ) (day : Option Date) → is_day_form text ≡ true → y ≡ digits_value 10 (take 4 text) → m ≡ digits_value 10 (take 2 (drop 5 text)) → d ≡ digits_value 10 (take 2 (drop 8 text)) → IsOnly (IsDay y m d) day → IsOnly (IsDayText text) day
day_by text y m d day form year month day_number is date =
    let same : IsDay y m d date ≡ IsDay (digits_value 10 (take 4 text)) (digits_value 10 (take 2 (drop 5 text))) (digits_value 10 (take 2 (drop 8 text))) date = rw (year, month, day_number) refl in (
      λ (found : day ≡ Some date). (form, subst (λ T. T) same ((is date).0 found)),
      λ (has : IsDayText text date). (is date).1 (subst (λ T. T) (sym same) has.1),
    )

day_at : (text : List ℕ) (form : Bool) → is_day_form text ≡ form → (day : Option Date) × IsOnly (IsDayText text) day
day_at text true e =
    let found = one_day (digits_value 10 (take 4 text)) (digits_value 10 (take 2 (drop 5 text))) (digits_value 10 (take 2 (drop 8 text))) in
    (found.0, day_by text _ _ _ found.0 e refl refl refl found.1)
day_at text false e = (None, no_day text e)

-- the day in a text
pub the_day : (text : List ℕ) → (day : Option Date) × IsOnly (IsDayText text) day
the_day text = day_at text (is_day_form text) refl

-- there is only one
pub one : {A : Type 0} (Q : A → Type 0) (a b : Option A) → IsOnly Q a → IsOnly Q b → a ≡ b
one Q (Some x) b is also = sym ((also x).1 ((is x).0 refl))
one Q None (Some z) is also = (is z).1 ((also z).0 refl)
one Q None None is also = refl
