use Rattle.std.proofs.Common.{Bor, List, ℕ, map, sym, ◌∙◌}
use Rattle.httparse.specs.Spans.{header_bytes}
use Rattle.httparse.specs.declared.spans.HeaderSpan.{HeaderSpan}
use Rattle.office_http_requests.specs.Hosts.{is_known_host}
use Rattle.office_http_requests.proofs.HostFacts.{any_next}
use Rattle.office_http_requests.proofs.hosts.has_known_host.Goals as goal

pub loop-header-preserved : goal.loop-header-preserved
loop-header-preserved c =
    let nowhere : HeaderSpan = record { name = record { start = 0; end = 0 }; value = record { start = 0; end = 0 } } in
    let hosts : List (List ℕ) = map (λ (host : Bor (List ℕ)). host.now) c.args.hosts.now in
    (rw (c.of.ensures, c.of-in-loop-header.ensures, c.loop-header.invariant) at c.known_with-known.ensures)
    ∙ sym (any_next (is_known_host hosts) (header_bytes c.args.seen.now) c.args.headers.now c.loop-header.header-index nowhere c.loop-header-test.true)
