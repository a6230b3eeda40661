use Rattle.std.proofs.Common.{◌≡◌, ◌≤◌, IfOk, length, sym, subst, ◌∙◌, arith}
use Rattle.std.proofs.lemmas.Result.{IfOk-at_ok, IfOk-weaker}
use Rattle.std.specs.FinMap.{len}
use Rattle.office_store_keeper.specs.Content.{Content}
use Rattle.office_store_keeper.specs.MemoryState.{content_of}
use Rattle.office_core_check.specs.steps.Comparing.{IsCompared, IsReadAs}
use Rattle.office_core_check.specs.Whole.{IsFound}
use Rattle.office_core_check.proofs.FoundFacts.{compared_differs, tables_found}
use Rattle.office_core_check.proofs.FrontFacts.{front_low}
use Rattle.office_core_check.proofs.store_check.check_made.Goals as goal

pub returns-in-Some-clause-found : goal.returns-in-Some-clause-found
returns-in-Some-clause-found g c = λ trusted office front size.
    let setup = c.args.made.now.plain.setup in
    let here = g.K.Keeper.content c.args.keeper.now in
    let anew : Content = content_of c.args.made.now.plain in
    let runs = c.args.runs in
    let count : c.in_ok-in_memory.field-0 ≡ length anew.reports = IfOk-at_ok (λ n. n ≡ length anew.reports) c.in_ok-in_memory.ensures.ok (c.finished.ensures.value tt) in
    let all : length anew.reports ≡ runs = omega (arith, count, c.if-branch-runs.false) in
    let compared : IsCompared here anew runs c.in_ok-unlike.unlike = subst (λ (a : Content). IsCompared here a runs c.in_ok-unlike.unlike) (c.finished.ensures.reads.same tt) (c.in_ok-unlike.ensures.found trusted) in
    compared_differs (g.K.Keeper.is_legible c.compare.new.keeper) setup here anew runs c.in-Some.difference office all (sym size) front (subst (IsCompared here anew runs) c.in-Some.is compared)

pub returns-in-None-clause-found : goal.returns-in-None-clause-found
returns-in-None-clause-found g c = λ trusted office front size.
    let keeper = g.K.Keeper in
    let setup = c.args.made.now.plain.setup in
    let here = keeper.content c.args.keeper.now in
    let now = keeper.content c.compare.new.keeper in
    let anew : Content = content_of c.args.made.now.plain in
    let made : Content = content_of c.compare.new.made.plain in
    let runs = c.args.runs in
    let earlier = c.check_tables.ensures.looks.before trusted in
    let result = c.check_tables.result in
    let legible = keeper.is_legible c.check_tables.new.keeper in
    let count : c.in_ok-in_memory.field-0 ≡ length anew.reports = IfOk-at_ok (λ n. n ≡ length anew.reports) c.in_ok-in_memory.ensures.ok (c.finished.ensures.value tt) in
    let all : length anew.reports ≡ runs = omega (arith, count, c.if-branch-runs.false) in
    let compared : IsCompared here anew runs c.in_ok-unlike.unlike = subst (λ (a : Content). IsCompared here a runs c.in_ok-unlike.unlike) (c.finished.ensures.reads.same tt) (c.in_ok-unlike.ensures.found earlier) in
    let same : now ≡ here = c.in_ok-unlike.ensures.looks.same earlier in
    let made_is : made ≡ anew = c.in_ok-unlike.ensures.same ∙ c.finished.ensures.reads.same tt in
    let low : len made.kept ≤ len now.kept =
    subst (λ (a : Content). len a.kept ≤ len now.kept) (sym made_is) (subst (λ (m : Content). len anew.kept ≤ len m.kept) (sym same) (front_low here.kept anew.kept (length setup.senders) front)) in
    let read : IfOk result (IsReadAs (legible × (len here.kept ≡ len anew.kept)) runs) =
    subst (λ (a : Content). IfOk result (IsReadAs (legible × (len here.kept ≡ len a.kept)) runs)) made_is
    (subst (λ (m : Content). IfOk result (IsReadAs (legible × (len m.kept ≡ len made.kept)) runs)) same (c.check_tables.ensures.read trusted low)) in
    IfOk-weaker result (IsReadAs (legible × (len here.kept ≡ len anew.kept)) runs) (IsFound setup here legible legible)
    (λ found it. tables_found legible setup here anew runs found office all (sym size) front (subst (IsCompared here anew runs) c.in-None.is compared) it) read
