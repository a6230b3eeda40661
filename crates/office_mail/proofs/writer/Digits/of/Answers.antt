use Rattle.std.proofs.Common.{◌≡◌, ◌+◌, ◌-◌, decimal, ◌∙◌, refl, arith}
use Rattle.std.proofs.lemmas.List.{append-nil, length-set}
use Rattle.office_mail.proofs.DigitFacts.{digits_more, digits_all, length-decimal_step, two_digits, twenty_digits}
use Rattle.office_mail.proofs.writer.Digits.of.Goals as goal

pub loop-rest-init : goal.loop-rest-init
loop-rest-init c = record { size = refl; start = omega arith; few = twenty_digits c.args.number (omega arith); digits = append-nil (decimal c.args.number) }

pub loop-rest-preserved : goal.loop-rest-preserved
loop-rest-preserved c =
    let l = c.loop-rest in
    let two = two_digits l.rest (omega arith) (omega arith) in
    let back : l.start - 1 + 1 ≡ l.start = omega (arith, two, l.invariant.few) in
    record {
      size = length-set l.bytes l.start _ ∙ l.invariant.size;
      start = omega (arith, l.invariant.start);
      few = omega (arith, length-decimal_step l.rest (omega arith) (omega arith), l.invariant.few, back);
      digits = rw back (digits_more l.bytes l.start l.rest (decimal c.args.number) l.invariant.size l.invariant.start (omega arith) (omega arith) l.invariant.digits);
    }

pub returns : goal.returns
returns c =
    let l = c.loop-rest in
    digits_all l.bytes l.start l.rest (decimal c.args.number) l.invariant.size l.invariant.start (omega arith) l.invariant.digits

pub overflow_sub-start : goal.overflow_sub-start
overflow_sub-start c = omega (arith, two_digits c.loop-rest.rest (omega arith) (omega arith), c.loop-rest.invariant.few)

pub loop-rest-smaller : goal.loop-rest-smaller
loop-rest-smaller c = omega (arith, two_digits c.loop-rest.rest (omega arith) (omega arith), c.loop-rest.invariant.few)
