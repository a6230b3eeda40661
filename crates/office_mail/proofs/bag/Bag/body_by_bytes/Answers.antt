use Rattle.std.proofs.Common.{refl, arith, rules}
use Rattle.std.proofs.lemmas.Result.{IfOk-from_err, err_from_is_err_and}
use Rattle.office_mail.proofs.BagFacts.{body_none, body_more, body_stops, body_without_memory, goes_on_same, goes_on_twice, fails_later}
use Rattle.office_mail.proofs.bag.Bag.body_by_bytes.Goals as goal

pub loop-i-init : goal.loop-i-init
loop-i-init g c = record {
  body = rw c.new-message.ensures.items (body_none c.args.self.now);
  clean = refl;
  goes_on = goes_on_same c.args.self.now;
}

pub returns-in_err-byte-clause-fault : goal.returns-in_err-byte-clause-fault
returns-in_err-byte-clause-fault g c =
    let p = err_from_is_err_and c.from_residual.result c.from_residual.ensures.1 in
    rw (p.1, p.2) (body_stops c.args.self.now c.loop-i.self c.next_byte.new.self c.loop-i._i c.args.length c.loop-i.message.items c.in_err-byte.field-0.0 c.loop-i.invariant.body (omega arith) c.in_err-byte.ensures.fault)

pub returns-in_err-push_within_limit-clause-fault : goal.returns-in_err-push_within_limit-clause-fault
returns-in_err-push_within_limit-clause-fault g c =
    let p = err_from_is_err_and c.from_residual-in_err-push_within_limit.result c.from_residual-in_err-push_within_limit.ensures.1 in
    rw (p.1, p.2, c.in_err-push_within_limit.ensures.fault) (body_without_memory c.args.self.now c.loop-i.self c.next_byte.new.self c.loop-i._i c.args.length c.in-Some.byte c.loop-i.message.items c.loop-i.invariant.body (rw c.in-Some.is at c.in_ok-byte.ensures.byte) c.in_ok-byte.ensures.waits)

pub returns-in_err-byte-clause-cause : goal.returns-in_err-byte-clause-cause
returns-in_err-byte-clause-cause g c =
    let p = err_from_is_err_and c.from_residual.result c.from_residual.ensures.1 in
    rw (p.1, p.2) (λ e. fails_later c.args.self.now c.loop-i.self c.next_byte.new.self c.loop-i.invariant.clean (c.in_err-byte.ensures.cause (cc)))

pub returns-in_err-byte-clause-goes_on : goal.returns-in_err-byte-clause-goes_on
returns-in_err-byte-clause-goes_on g c = goes_on_twice c.args.self.now c.loop-i.self c.next_byte.new.self c.loop-i.invariant.goes_on c.next_byte.ensures.goes_on

pub returns-in_default-clause-goes_on : goal.returns-in_default-clause-goes_on
returns-in_default-clause-goes_on g c = goes_on_twice c.args.self.now c.loop-i.self c.next_byte.new.self c.loop-i.invariant.goes_on c.next_byte.ensures.goes_on

pub returns-in_err-push_within_limit-clause-goes_on : goal.returns-in_err-push_within_limit-clause-goes_on
returns-in_err-push_within_limit-clause-goes_on g c = goes_on_twice c.args.self.now c.loop-i.self c.next_byte.new.self c.loop-i.invariant.goes_on c.next_byte.ensures.goes_on

pub returns-in_default-clause-fault : goal.returns-in_default-clause-fault
returns-in_default-clause-fault g c =
    body_stops c.args.self.now c.loop-i.self c.next_byte.new.self c.loop-i._i c.args.length c.loop-i.message.items _ c.loop-i.invariant.body (omega arith) (c.in_ok-byte.ensures.end (rw c.in_default.is refl))

pub loop-i-preserved : goal.loop-i-preserved
loop-i-preserved g c = record {
  body = body_more c.args.self.now c.loop-i.self c.next_byte.new.self c.loop-i._i c.in-Some.byte c.loop-i.message.items _ c.loop-i.invariant.body (rw c.in-Some.is at c.in_ok-byte.ensures.byte) c.in_ok-push_within_limit.ensures.handed;
  clean = search rules;
  goes_on = goes_on_twice c.args.self.now c.loop-i.self c.next_byte.new.self c.loop-i.invariant.goes_on c.next_byte.ensures.goes_on;
}

pub returns-clause-whole : goal.returns-clause-whole
returns-clause-whole g c = search rules

pub returns-in_err-byte-clause-whole : goal.returns-in_err-byte-clause-whole
returns-in_err-byte-clause-whole g c = IfOk-from_err c.from_residual.result _ c.from_residual.ensures.0

pub returns-in_err-push_within_limit-clause-whole : goal.returns-in_err-push_within_limit-clause-whole
returns-in_err-push_within_limit-clause-whole g c = IfOk-from_err c.from_residual-in_err-push_within_limit.result _ c.from_residual-in_err-push_within_limit.ensures.0
