use Rattle.std.proofs.Common.{◌≡◌, IfOk, length, sym, ap, subst, ◌∙◌}
use Rattle.std.proofs.lemmas.Result.{IfOk-weaker}
use Rattle.office_mail.specs.Lists.{Lists}
use Rattle.office_store_keeper.specs.Content.{Content, no_content}
use Rattle.office_store_keeper.specs.MemoryState.{content_of}
use Rattle.office_core_facts.specs.State.{IsOffice}
use Rattle.office_core.proofs.OfficeFacts.{IsOffice-new}
use Rattle.office_core_check.specs.steps.Comparing.{IsAnew}
use Rattle.office_core_check.specs.steps.Reading.{IsFront}
use Rattle.office_core_check.specs.Whole.{IsFound}
use Rattle.office_core_check.proofs.FoundFacts.{office_whole}
use Rattle.office_core_check.proofs.FrontFacts.{front_none}
use Rattle.office_core_check.proofs.store_check.check_read.Goals as goal

pub returns-clause-found : goal.returns-clause-found
returns-clause-found g c = λ trusted.
    let keeper = g.K.Keeper in
    let here = keeper.content c.args.keeper.now in
    let now = keeper.content c.finished.new.self in
    let legible = keeper.is_legible c.check_anew.new.keeper in
    let earlier = c.check_anew.ensures.looks.before trusted in
    let same : now ≡ here = c.in_ok-runs.ensures.reads.same earlier in
    let office = c.in_ok-office.office in
    let setup = office.plain.setup in
    let is : setup ≡ c.args.setup.now = c.in_ok-office.ensures.setup in
    let none : content_of office.plain ≡ no_content = c.in_ok-office.ensures.content in
    let anew : IsAnew office = subst (IsOffice setup) (sym none) (IsOffice-new setup) in
    let front : IsFront now.kept 0 0 (content_of office.plain).kept = subst (λ (m : Content). IsFront now.kept 0 0 m.kept) (sym none) (front_none now.kept) in
    let size : c.in_ok-runs.runs ≡ length now.reports = c.in_ok-runs.ensures.value earlier ∙ ap (λ (m : Content). length m.reports) (sym same) in
    subst (λ (s : Lists). IfOk c.check_anew.result (IsFound s here legible legible)) is
    (subst (λ (m : Content). IfOk c.check_anew.result (IsFound setup m legible legible)) same (c.check_anew.ensures.found trusted anew front size))

pub returns-clause-whole : goal.returns-clause-whole
returns-clause-whole g c = λ trusted legible office.
    let keeper = g.K.Keeper in
    let here = keeper.content c.args.keeper.now in
    let still = c.check_anew.ensures.looks.legible trusted (c.in_ok-runs.ensures.reads.legible (c.check_anew.ensures.looks.before trusted) legible) in
    IfOk-weaker c.check_anew.result (IsFound c.args.setup.now here (keeper.is_legible c.check_anew.new.keeper) (keeper.is_legible c.check_anew.new.keeper)) _ (λ checked found. office_whole (keeper.is_legible c.check_anew.new.keeper) c.args.setup.now here checked still office found)
    (returns-clause-found g c trusted)
