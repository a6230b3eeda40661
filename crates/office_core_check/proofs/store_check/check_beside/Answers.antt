use Rattle.std.proofs.Common.{◌≤◌, length, subst, arith}
use Rattle.office_mail.specs.Kept.{Kept}
use Rattle.office_store_keeper.specs.MemoryState.{content_of}
use Rattle.office_core_check.specs.steps.Comparing.{IsMade}
use Rattle.office_core_check.proofs.FoundFacts.{unmade_differs}
use Rattle.office_core_check.proofs.store_check.check_beside.Goals as goal

pub returns-in-Some-clause-found : goal.returns-in-Some-clause-found
returns-in-Some-clause-found g c = λ trusted office made size.
    let setup = c.args.made.now.plain.setup in
    let here = g.K.Keeper.content c.args.keeper.now in
    let front : Kept = (content_of c.args.made.now.plain).kept in
    let low : c.args.runs ≤ length here.reports = omega (arith, size) in
    unmade_differs (g.K.Keeper.is_legible c.args.keeper.now) setup here c.args.runs c.in-Some.difference low (subst (IsMade setup here.kept c.args.runs front) c.in-Some.is made)
