use Rattle.std.proofs.Common.{◌≡◌, map, take}
use Rattle.httparse.specs.Spans.{header_bytes}
use Rattle.office_http_requests.specs.Asked.{framing_of}
use Rattle.office_http_requests.proofs.request.framing_of.Given as goal

abbrev pub invariant-loop-header : goal.invariant-loop-header
invariant-loop-header l = l.framing ≡ framing_of (map (header_bytes l.seen) (take l.header-index l.headers))
