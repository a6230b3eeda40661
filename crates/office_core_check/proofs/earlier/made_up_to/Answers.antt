use Rattle.std.proofs.Common.{◌≡◌, IfOk, sym, subst}
use Rattle.office_mail.specs.Lists.{Lists}
use Rattle.office_store_keeper.specs.Content.{Content, no_content}
use Rattle.office_store_keeper.specs.MemoryState.{content_of}
use Rattle.office_core_facts.specs.State.{IsOffice}
use Rattle.office_core.proofs.OfficeFacts.{IsOffice-new}
use Rattle.office_core_check.specs.steps.Comparing.{IsAnew, IsMadeUpTo}
use Rattle.office_core_check.specs.steps.Reading.{IsFront}
use Rattle.office_core_check.specs.Whole.{AreOfSenders}
use Rattle.office_core_check.proofs.FrontFacts.{front_none}
use Rattle.office_core_check.proofs.earlier.made_up_to.Goals as goal

pub returns-clause-made : goal.returns-clause-made
returns-clause-made g c = λ trusted size are.
    let here = g.K.Keeper.content c.args.keeper.now in
    let run = c.args.run in
    let office = c.in_ok-office.office in
    let setup = office.plain.setup in
    let is : setup ≡ c.args.setup.now = c.in_ok-office.ensures.setup in
    let none : content_of office.plain ≡ no_content = c.in_ok-office.ensures.content in
    let anew : IsAnew office = subst (IsOffice setup) (sym none) (IsOffice-new setup) in
    let front : IsFront here.kept 0 0 (content_of office.plain).kept = subst (λ (m : Content). IsFront here.kept 0 0 m.kept) (sym none) (front_none here.kept) in
    subst (λ (s : Lists). IfOk c.made_after.result (IsMadeUpTo s here run)) is
    (c.made_after.ensures.after trusted anew front size (subst (λ (s : Lists). AreOfSenders s here.kept) (sym is) are))
