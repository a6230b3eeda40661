use Rattle.std.proofs.Common.{length, slice_index, sym, subst}
use Rattle.testing_rules_model.specs.Covered.{Covered}
use Rattle.testing_rules_model.specs.FactLists.{FactLists}
use Rattle.testing_rules_model.specs.KeptFacts.{KeptFacts}
use Rattle.testing_rules_model.specs.StandsFor.{StandsFor}
use Rattle.testing_rules_model.specs.Suite.{Suite}
use Rattle.testing_rules_laws.proofs.BesideTesting.{trim_keeps}
use Rattle.office_store_keeper.specs.Content.{Content}
use Rattle.office_core_facts.specs.Known.{AreUnderWay, said_all}
use Rattle.office_core_facts.specs.steps.Walk.{said_within}
use Rattle.office_core_facts.proofs.TakenFacts.{AreUnderWay-trimmed}
use Rattle.office_core_facts.proofs.KeptRows.{holdable, release_by_mail}
use Rattle.office_core_facts.proofs.SaidFacts.{one_of_all}
use Rattle.office_core_facts.proofs.retaken.follow_testing.Goals as goal

pub returns-clause-way : goal.returns-clause-way
returns-clause-way g c = λ trusted way.
    let setup = c.args.setup.now in
    let content : Content = g.K.Keeper.content c.args.keeper.now in
    subst (AreUnderWay setup content) (sym c.trim.ensures) (AreUnderWay-trimmed setup content c.args.after.now c.retake_uploads.new.known.facts (c.in_ok-retake_uploads.ensures.way trusted way))

pub returns-clause-held : goal.returns-clause-held
returns-clause-held g c = λ trusted way own.
    let setup = c.args.setup.now in
    let content : Content = g.K.Keeper.content c.args.keeper.now in
    let f : FactLists = c.trim.new.self in
    let now : AreUnderWay setup content f =
    subst (AreUnderWay setup content) (sym c.trim.ensures) (AreUnderWay-trimmed setup content c.args.after.now c.retake_uploads.new.known.facts (c.in_ok-retake_uploads.ensures.way trusted way)) in
    holdable setup content.facts (said_all setup content.kept) f c.in_ok-changes.changes (one_of_all setup content.kept) now.tells now.by_message now.rows c.in_ok-changes.ensures
    (release_by_mail setup content.kept f c.one_release_sender.ensures own now.tells)

pub returns-clause-kept : goal.returns-clause-kept
returns-clause-kept g c = λ trusted stood.
    let setup = c.args.setup.now in
    let content : Content = g.K.Keeper.content c.args.keeper.now in
    let s : Covered = said_within setup content.kept (slice_index c.args.known.now.taken.items) (length setup.senders) in
    let after : Suite = c.args.after.now in
    let stands : StandsFor c.retake_uploads.new.known.facts s after = c.in_ok-retake_uploads.ensures.stands trusted stood in
    subst (λ (f : FactLists). KeptFacts f s after) (sym c.trim.ensures) (trim_keeps c.retake_uploads.new.known.facts s after stands)
