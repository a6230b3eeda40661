use Rattle.std.proofs.Common.{sym, ◌∙◌}
use Rattle.httparse.specs.Spans.{header_bytes}
use Rattle.httparse.specs.declared.spans.HeaderSpan.{HeaderSpan}
use Rattle.office_http_requests.proofs.FramingFacts.{framing_none, framing_next}
use Rattle.office_http_requests.proofs.request.framing_of.Goals as goal

pub loop-header-init : goal.loop-header-init
loop-header-init c = framing_none

pub loop-header-preserved : goal.loop-header-preserved
loop-header-preserved c =
    let nowhere : HeaderSpan = record { name = record { start = 0; end = 0 }; value = record { start = 0; end = 0 } } in
    (rw (c.of.ensures, c.of-in-loop-header.ensures, c.loop-header.invariant) at c.with_field-framing.ensures)
    ∙ sym (framing_next (header_bytes c.args.seen.now) c.args.headers.now c.loop-header.header-index nowhere c.loop-header-test.true)
