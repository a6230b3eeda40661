use Rattle.std.proofs.Common.{refl, arith, rules}
use Rattle.std.proofs.lemmas.Result.{IfOk-from_err, err_from_is_err_and}
use Rattle.office_mail.specs.steps.Line.{spelled}
use Rattle.office_mail.proofs.BagFacts.{goes_on_twice, line_more, bad_line, line_ends, line_fails, line_missing, length-spelled}
use Rattle.office_mail.proofs.bag.Bag.header.Goals as goal

pub returns-in_err-byte-clause-fault : goal.returns-in_err-byte-clause-fault
returns-in_err-byte-clause-fault g c =
    let line = c.loop-byte.line in
    let p = err_from_is_err_and c.from_residual.result c.from_residual.ensures.1 in
    rw (p.1, p.2) (line_fails c.args.self.now c.loop-byte.self c.next_byte.new.self (spelled line.place line.value) c.in_err-byte.field-0.0
    c.loop-byte.invariant.line (line_missing line.place line.value line.line) (λ e. c.in_err-byte.ensures.untruncated (rw e refl)) c.in_err-byte.ensures.fault)

pub returns-in-Bad-clause-fault : goal.returns-in-Bad-clause-fault
returns-in-Bad-clause-fault g c =
    let line = c.loop-byte.line in
    bad_line c.args.self.now c.loop-byte.self c.next_byte.new.self (spelled line.place line.value) c.in-Some.byte
    c.loop-byte.invariant.line (rw c.in-Some.is at c.in_ok-byte.ensures.byte) c.in_ok-byte.ensures.waits (line_missing line.place line.value line.line) (rw c.in-Bad.is at c.with.ensures)

pub returns-in-None-2-clause-fault : goal.returns-in-None-2-clause-fault
returns-in-None-2-clause-fault g c =
    let line = c.loop-byte.line in
    line_ends c.args.self.now c.loop-byte.self c.next_byte.new.self (spelled line.place line.value)
    c.loop-byte.invariant.line (omega (arith, length-spelled line.place line.value line.line)) (line_missing line.place line.value line.line) (c.in_ok-byte.ensures.end (rw c.in-None.is refl))

pub returns-in_err-byte-clause-goes_on : goal.returns-in_err-byte-clause-goes_on
returns-in_err-byte-clause-goes_on g c = goes_on_twice c.args.self.now c.loop-byte.self c.next_byte.new.self c.loop-byte.invariant.goes_on c.next_byte.ensures.goes_on

pub returns-in-Bad-clause-goes_on : goal.returns-in-Bad-clause-goes_on
returns-in-Bad-clause-goes_on g c = goes_on_twice c.args.self.now c.loop-byte.self c.next_byte.new.self c.loop-byte.invariant.goes_on c.next_byte.ensures.goes_on

pub returns-in-None-clause-goes_on : goal.returns-in-None-clause-goes_on
returns-in-None-clause-goes_on g c = goes_on_twice c.args.self.now c.loop-byte.self c.next_byte.new.self c.loop-byte.invariant.goes_on c.next_byte.ensures.goes_on

pub returns-in-None-2-clause-goes_on : goal.returns-in-None-2-clause-goes_on
returns-in-None-2-clause-goes_on g c = goes_on_twice c.args.self.now c.loop-byte.self c.next_byte.new.self c.loop-byte.invariant.goes_on c.next_byte.ensures.goes_on

pub returns-in-Whole-clause-goes_on : goal.returns-in-Whole-clause-goes_on
returns-in-Whole-clause-goes_on g c = goes_on_twice c.args.self.now c.loop-byte.self c.next_byte.new.self c.loop-byte.invariant.goes_on c.next_byte.ensures.goes_on

pub loop-byte-preserved : goal.loop-byte-preserved
loop-byte-preserved g c =
    let line = c.loop-byte.line in record {
      line = line_more c.args.self.now c.loop-byte.self c.next_byte.new.self (spelled line.place line.value) _ c.in-Some.byte c.loop-byte.invariant.line (rw c.in-Some.is at c.in_ok-byte.ensures.byte) (rw c.in-More.is at c.with.ensures).0;
      clean = search rules;
      goes_on = goes_on_twice c.args.self.now c.loop-byte.self c.next_byte.new.self c.loop-byte.invariant.goes_on c.next_byte.ensures.goes_on;
    }

pub returns-in_err-byte-clause-line : goal.returns-in_err-byte-clause-line
returns-in_err-byte-clause-line g c = IfOk-from_err c.from_residual.result _ c.from_residual.ensures.0

pub returns-in_err-byte-clause-room : goal.returns-in_err-byte-clause-room
returns-in_err-byte-clause-room g c = IfOk-from_err c.from_residual.result _ c.from_residual.ensures.0
