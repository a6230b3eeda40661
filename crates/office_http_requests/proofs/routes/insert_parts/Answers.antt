use Rattle.matchit.proofs.OnLiterals.{matchit_on_literals}
use Rattle.office_http_requests.specs.Routes.{twelve_routes}
use Rattle.office_http_requests.specs.steps.Routes.{seventeen_routes}
use Rattle.office_http_requests.proofs.routes.insert_parts.Goals as goal

pub returns : goal.returns
unfolding matchit_on_literals twelve_routes seventeen_routes
returns c =
    let a = rw c.requires at c.in_ok-insert.ensures in
    let b = rw a.1 at c.in_ok-insert-2.ensures in
    let d = rw b.1 at c.in_ok-insert-3.ensures in
    let e = rw d.1 at c.in_ok-insert-4.ensures in
    let f = rw e.1 at c.in_ok-insert-5.ensures in
    f.1
