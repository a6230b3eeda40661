use Rattle.matchit.proofs.OnLiterals.{matchit_on_literals}
use Rattle.office_http_requests.specs.Routes.{ten_routes, twelve_routes}
use Rattle.office_http_requests.proofs.routes.insert_trials.Goals as goal

pub returns : goal.returns
unfolding matchit_on_literals ten_routes twelve_routes
returns c =
    let a = rw c.requires at c.in_ok-insert.ensures in
    let b = rw a.1 at c.in_ok-insert-2.ensures in
    b.1
