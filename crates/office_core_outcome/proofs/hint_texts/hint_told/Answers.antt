use Rattle.std.proofs.Common.{length, is_none, sym, ap, subst, ◌∙◌}
use Rattle.std.specs.Prelude.{Option, IfSome}
use Rattle.office_store_keeper.specs.Content.{Content}
use Rattle.office_core_outcome.specs.declared.snapshot.Snapshot.{Snapshot}
use Rattle.office_core_outcome.specs.steps.Snapshot.{HasTesting, IsOrderedSnapshot}
use Rattle.office_core_outcome.proofs.hint_texts.hint_told.Goals as goal

pub give_back-requires : goal.give_back-requires
give_back-requires g c =
    let content : Content = g.K.Keeper.content c.args.keeper.now in
    record {
      same = λ trusted legible. c.in_ok-testing.ensures.before ∙ subst (HasTesting content) c.in-Some.is (c.in_ok-found.ensures.kept trusted legible) ∙ sym (ap (λ (m : Content). m.testing) (c.in_ok-found.ensures.looks.same trusted));
    }

pub returns-clause-told : goal.returns-clause-told
returns-clause-told g c = λ trusted legible office.
    let setup = c.args.setup.now in
    let content : Content = g.K.Keeper.content c.args.keeper.now in
    let earlier = c.give_back.ensures.before trusted in
    c.in_ok-testing.ensures.told content.kept (length content.reports)
    (subst (λ (found : Option Snapshot). IfSome found (IsOrderedSnapshot setup content.kept (length content.reports))) c.in-Some.is
    (c.in_ok-found.ensures.is earlier (c.in_ok-found.ensures.looks.legible earlier legible) office))

pub returns-clause-ordered : goal.returns-clause-ordered
returns-clause-ordered g c = λ trusted office. sym (ap is_none c.in-Some.is) ∙ c.in_ok-found.ensures.ordered (c.give_back.ensures.before trusted) office

pub returns-in_default-clause-ordered : goal.returns-in_default-clause-ordered
returns-in_default-clause-ordered g c = λ trusted office. sym (ap is_none c.in_default.is) ∙ c.in_ok-found.ensures.ordered trusted office
