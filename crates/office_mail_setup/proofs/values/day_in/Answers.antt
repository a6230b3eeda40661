use Rattle.std.proofs.Common.{ℕ, List, ap, sym, ◌∙◌, take, drop}
use Rattle.std.specs.Str.Parse.{digits_value}
use Rattle.office_mail_setup.specs.Values.{is_day_form}
use Rattle.office_mail_setup.proofs.OneDay.{day_by}
use Rattle.office_mail_setup.proofs.values.day_in.Goals as goal

pub returns : goal.returns
returns c =
    let same = c.as_bytes-bytes.ensures.value in
    day_by c.args.text.now c.four_digits-year.result c.two_digits-month.result c.two_digits-day.result c.real_day.result
    (sym (ap is_day_form same) ∙ sym c.is_day_form.ensures.value ∙ c.if-not-is_day_form.false)
    (c.four_digits-year.ensures.value ∙ ap (λ (t : List ℕ). digits_value 10 (take 4 t)) same)
    (c.two_digits-month.ensures.value ∙ ap (λ (t : List ℕ). digits_value 10 (take 2 (drop 5 t))) same)
    (c.two_digits-day.ensures.value ∙ ap (λ (t : List ℕ). digits_value 10 (take 2 (drop 8 t))) same)
    c.real_day.ensures
