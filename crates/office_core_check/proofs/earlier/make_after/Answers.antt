use Rattle.std.proofs.Common.{length, sym, ap, subst, ◌∙◌}
use Rattle.office_mail.specs.Kept.{Kept}
use Rattle.office_mail.specs.Lists.{Lists}
use Rattle.office_store_keeper.specs.Content.{Content}
use Rattle.office_store_keeper.specs.MemoryState.{content_of}
use Rattle.office_core_facts.specs.State.{IsOffice}
use Rattle.office_core_check.specs.steps.Comparing.{IsMade}
use Rattle.office_core_check.specs.steps.Reading.{IsFront}
use Rattle.office_core_check.proofs.EarlierFacts.{made_of_no_office}
use Rattle.office_core_check.proofs.FoundFacts.{is_none}
use Rattle.office_core_check.proofs.FrontFacts.{front_all}
use Rattle.office_core_check.proofs.earlier.make_after.Goals as goal

pub returns-then-is_some-clause-made : goal.returns-then-is_some-clause-made
returns-then-is_some-clause-made g c = λ trusted anew start size are.
    let here = g.K.Keeper.content c.args.keeper.now in
    let run = c.args.run in
    let difference = c.in_ok-difference.difference in
    let old = c.args.office.now.plain.setup in
    let new = c.make_anew.new.office.plain.setup in
    let front : Kept = (content_of c.make_anew.new.office.plain).kept in
    let made : IsMade old here.kept run front difference =
    subst (λ (s : Lists). IsMade s here.kept run front difference) c.in_ok-difference.ensures.setup (c.in_ok-difference.ensures.made trusted anew start) in
    λ office. made_of_no_office old here run front difference (sym c.is_some.ensures ∙ c.if-is_some.true) size made are office

pub returns-clause-made : goal.returns-clause-made
returns-clause-made g c = λ trusted anew start size are.
    let here = g.K.Keeper.content c.args.keeper.now in
    let run = c.args.run in
    let difference = c.in_ok-difference.difference in
    let old = c.args.office.now.plain.setup in
    let mid = c.make_anew.new.office.plain in
    let end = c.has_finished.new.office.plain in
    let front : Kept = (content_of mid).kept in
    let made : IsMade old here.kept run front difference =
    subst (λ (s : Lists). IsMade s here.kept run front difference) c.in_ok-difference.ensures.setup (c.in_ok-difference.ensures.made trusted anew start) in
    let all : IsFront here.kept (length old.senders) 0 front =
    subst (IsMade old here.kept run front) (is_none difference c.is_some.result c.is_some.ensures c.if-is_some.false) made in
    let sound : IsOffice mid.setup (content_of mid) = c.in_ok-difference.ensures.anew anew in
    record {
      setup_is = c.in_ok-has_finished.ensures.setup ∙ c.in_ok-difference.ensures.setup;
      kept_is = ap (λ (m : Content). m.kept) c.in_ok-has_finished.ensures.same ∙ front_all old here.kept front all are;
      finished = c.in_ok-has_finished.ensures.all sound;
      sound =
          subst (λ (s : Lists). IsOffice s (content_of end)) (sym c.in_ok-has_finished.ensures.setup)
          (subst (IsOffice mid.setup) (sym c.in_ok-has_finished.ensures.same) sound);
    }
