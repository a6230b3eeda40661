-- Days by their numbers.
use Rattle.std.proofs.Common.{◌≡◌, ℕ, ◌<◌, ◌≤◌, ◌↔◌, Some, None, Result, Ok, Err, pos, IsOk, IfOk, refl, ap, subst, arith, List, true}
use Rattle.std.specs.Cmp.{first_so, second_so}
use Rattle.std.proofs.lemmas.Bool.{eqb-true}
use Rattle.std.specs.Result.{result_ok}
use Rattle.jiff_core.specs.declared.civil.date.Date.{Date}
use Rattle.jiff_core.specs.Calendar.{IsDate}
use Rattle.jiff_core.specs.Date.{IsYmd, epoch_day}
use Rattle.jiff.proofs.Family.{same_date}
use Rattle.office_mail_setup.specs.Calendar.{IsDay, IsOnly}
use Rattle.office_mail_setup.specs.Values.{is_day_form}
use Rattle.office_mail_setup.specs.steps.Values.{DayForm}
use Rattle.office_mail_setup.proofs.OneDay.{some_same, months, nothing, is_date}

pub form_of : (text : List ℕ) → is_day_form text ≡ true → DayForm text
unfolding is_day_form
form_of text h =
    let five = first_so _ _ h in
    let four = first_so _ _ five in
    record {
      size = eqb-true _ _ (first_so _ _ (first_so _ _ (first_so _ _ four)));
      year = second_so _ _ four;
      month = second_so _ _ five;
      day = second_so _ _ h;
    }

same_parts : (y m d : ℕ) (a b : Date) → IsYmd (pos y) (pos m) (pos d) a → IsYmd (pos y) (pos m) (pos d) b → epoch_day a ≡ epoch_day b
same_parts y m d a b as_a as_b =
    let month : a.month ≡ m = months _ _ as_a.1 in
    let day : a.day ≡ d = months _ _ as_a.2 in
    let also_month : b.month ≡ m = months _ _ as_b.1 in
    let also_day : b.day ≡ d = months _ _ as_b.2 in
    rw (as_a.0, month, day, as_b.0, also_month, also_day) refl

pub real_days : {E : Type 0} (r : Result Date E) (y m d : ℕ) → 1_970 ≤ y → IsOk r ↔ IsDate (pos y) (pos m) (pos d) → IfOk r (IsYmd (pos y) (pos m) (pos d)) → IsOnly (IsDay y m d) (result_ok r)
real_days (Ok a) y m d low iff ymd date = (
  λ (is : Some a ≡ Some date). (low, subst (IsYmd (pos y) (pos m) (pos d)) (some_same _ _ is) ymd),
  λ (has : IsDay y m d date). ap Some (same_date a date (same_parts y m d a date ymd has.1)),
)
real_days (Err error) y m d low iff ymd date = (
  λ (is : None ≡ Some date). absurd (nothing date is),
  λ (has : IsDay y m d date). let ok = iff.1 (is_date y m d date has.1) in absurd (cc),
)

pub too_early : (y m d : ℕ) → y < 1_970 → IsOnly (IsDay y m d) None
too_early y m d h date = (
  λ (is : None ≡ Some date). absurd (nothing date is),
  λ (has : IsDay y m d date). absurd (omega (arith, h, has.0)),
)
