use Rattle.std.proofs.Common.{Bool, Bor, List, ℕ, map, refl, subst}
use Rattle.office_mail.specs.Written.{Writes}
use Rattle.office_http_requests.specs.Reply.{refused, reply_bytes}
use Rattle.office_http_requests.specs.declared.reply.Refusal.TheVariants as refusal
use Rattle.office_http_requests.proofs.HostFacts.{for_none, head_is}
use Rattle.office_http.proofs.hosts.serve_as_hosts.Goals as goal

pub returns-in-Some-clause-still : goal.returns-in-Some-clause-still
returns-in-Some-clause-still g c = λ other. refl

pub returns-in-Some-clause-unread : goal.returns-in-Some-clause-unread
returns-in-Some-clause-unread g c = λ other. refl

pub returns-in-Some-clause-refused : goal.returns-in-Some-clause-refused
returns-in-Some-clause-refused g c = λ other.
    let hosts : List (List ℕ) = map (λ (host : Bor (List ℕ)). host.now) c.args.hosts.now in
    let same = head_is hosts other.head c.in-Some.is_head (c.in-Some.ensures.exact other.head other.rest other.begins) other.other in
    subst (λ (b : Bool). Writes g.W.Sink c.args.writer.now c.refuse_host.new.writer (reply_bytes (refused refusal.OtherHost) b) c.refuse_host.result) same c.refuse_host.ensures.writes

pub returns-in-Some-clause-ok : goal.returns-in-Some-clause-ok
returns-in-Some-clause-ok g c = λ none h. absurd (none c.in-Some.ensures.only)

pub returns-in-Some-clause-err : goal.returns-in-Some-clause-err
returns-in-Some-clause-err g c = λ none h. absurd (none c.in-Some.ensures.only)

pub returns-in-None-clause-still : goal.returns-in-None-clause-still
returns-in-None-clause-still g c = λ other.
    absurd (for_none (map (λ (host : Bor (List ℕ)). host.now) c.args.hosts.now) other.head (c.in-None.ensures.exact other.head other.rest other.begins) other.other)

pub returns-in-None-clause-unread : goal.returns-in-None-clause-unread
returns-in-None-clause-unread g c = λ other.
    absurd (for_none (map (λ (host : Bor (List ℕ)). host.now) c.args.hosts.now) other.head (c.in-None.ensures.exact other.head other.rest other.begins) other.other)

pub returns-in-None-clause-refused : goal.returns-in-None-clause-refused
returns-in-None-clause-refused g c = λ other.
    absurd (for_none (map (λ (host : Bor (List ℕ)). host.now) c.args.hosts.now) other.head (c.in-None.ensures.exact other.head other.rest other.begins) other.other)

pub returns-in-None-clause-ok : goal.returns-in-None-clause-ok
returns-in-None-clause-ok g c = λ none. c.serve_with_routes.ensures.ok

pub returns-in-None-clause-err : goal.returns-in-None-clause-err
returns-in-None-clause-err g c = λ none. c.serve_with_routes.ensures.err
