use Rattle.std.proofs.Common.{rules, ℕ, ◌+◌, ◌∙◌, arith}
use Rattle.std.proofs.Math.Seq.{take-add}
use Rattle.std.proofs.lemmas.List.{length-drop}
use Rattle.std.proofs.KnownBytes.{Appends-trans}
use Rattle.office_mail.proofs.WrittenFacts.{appends_keeps, front_of, appends_rest, unraised, writes_front}
use Rattle.office_mail.proofs.writer.write_all.Goals as goal

pub returns-in-Ok-eq0 : goal.returns-in-Ok-eq0
returns-in-Ok-eq0 g c =
    let written = g.W.Sink.written in
    let n : ℕ = c.in-Ok-eq0.field-0 in
    writes_front g.W.Sink _ _ _ _ (front_of (written c.args.writer.now) (written c.write.new.self) c.args.bytes.now (c.loop-at.at + n)
    (rw (take-add c.loop-at.at n c.args.bytes.now) (Appends-trans (written c.args.writer.now) (written c.loop-at.writer) (written c.write.new.self) _ _ c.loop-at.invariant.took (appends_rest (written c.loop-at.writer) (written c.write.new.self) c.args.bytes.now c.loop-at.at n c.in-Ok-eq0.ensures.bytes)))) (search rules)

pub loop-at-preserved : goal.loop-at-preserved
loop-at-preserved g c =
    let written = g.W.Sink.written in
    record {
      within = omega (arith, c.in-Ok.ensures.bound, length-drop c.loop-at.at c.args.bytes.now, c.loop-at.invariant.within);
      took = rw (take-add c.loop-at.at c.in-Ok.n c.args.bytes.now) (Appends-trans (written c.args.writer.now) (written c.loop-at.writer) (written c.write.new.self) _ _ c.loop-at.invariant.took (appends_rest (written c.loop-at.writer) (written c.write.new.self) c.args.bytes.now c.loop-at.at c.in-Ok.n c.in-Ok.ensures.bytes));
      failures = unraised c.in-Ok.n (g.W.Sink.failures c.loop-at.writer) (g.W.Sink.failures c.write.new.self) c.in-Ok.n-test.1 c.in-Ok.ensures.failures ∙ c.loop-at.invariant.failures;
    }

pub returns-in-Err : goal.returns-in-Err
returns-in-Err g c =
    let written = g.W.Sink.written in
    writes_front g.W.Sink _ _ _ _ (front_of (written c.args.writer.now) (written c.write.new.self) c.args.bytes.now c.loop-at.at
    (appends_keeps (written c.args.writer.now) (written c.loop-at.writer) (written c.write.new.self) _ c.loop-at.invariant.took c.in-Err.ensures.bytes)) (search rules)
