use Rattle.std.proofs.Common.{sym, ◌∙◌, arith}
use Rattle.office_http_requests.proofs.LengthFacts.{stated_bad, stated_exactly, stated_long, stated_huge}
use Rattle.office_http_requests.proofs.request.number_stated.Goals as goal

pub returns-then-not-is_number : goal.returns-then-not-is_number
returns-then-not-is_number c = stated_bad c.args.value.now (sym c.is_number.ensures ∙ c.if-not-is_number.true)

pub returns-in-Some : goal.returns-in-Some
returns-in-Some c = stated_exactly c.args.value.now c.in-Some.length (sym c.is_number.ensures ∙ c.if-not-is_number.false) c.in-Some.ensures (omega (arith, c.if-length-le-BODY_ROOM.true))

pub returns-in_default : goal.returns-in_default
returns-in_default c = stated_long c.args.value.now c.in-Some.length (sym c.is_number.ensures ∙ c.if-not-is_number.false) c.in-Some.ensures (λ small. omega (arith, c.if-length-le-BODY_ROOM.false, small))

pub returns-in_default-2 : goal.returns-in_default-2
returns-in_default-2 c = stated_huge c.args.value.now (sym c.is_number.ensures ∙ c.if-not-is_number.false) c.in_default.ensures
