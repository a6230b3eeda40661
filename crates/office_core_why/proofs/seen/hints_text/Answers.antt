use Rattle.std.proofs.Common.{Option, IfOk, IfSome, length, sym, subst}
use Rattle.office_store_keeper.specs.Content.{Content}
use Rattle.office_core_facts.specs.declared.covered.KnownFacts.{KnownFacts}
use Rattle.office_core_facts.specs.Known.{AreKnown}
use Rattle.office_core_facts.specs.steps.Last.{OfRuns}
use Rattle.office_core_why.specs.Hints.{IsHintsText}
use Rattle.office_core_why.proofs.seen.hints_text.Goals as goal

pub returns-clause-text : goal.returns-clause-text
returns-clause-text g c = λ trusted legible office.
    let a = c.args in
    let setup = a.setup.now in
    let finished = c.in_ok-finished.finished in
    let known : Option KnownFacts = c.finished_runs.new.known in
    let earlier = c.hints_seen.ensures.looks.before trusted in
    let same = c.in_ok-finished.ensures.looks.same earlier in
    subst (λ (m : Content). OfRuns setup m finished known (IfOk c.hints_seen.result (IsHintsText setup m.kept (length m.reports)))) same
    (c.hints_seen.ensures.text trusted (c.in_ok-finished.ensures.looks.legible earlier legible))
    office (c.in_ok-finished.ensures.finished earlier)
    (subst (λ (m : Content). IfSome known (λ (k : KnownFacts). AreKnown setup m k)) same (c.in_ok-finished.ensures.known earlier))

pub returns-clause-known : goal.returns-clause-known
returns-clause-known g c = λ trusted.
    subst (λ (m : Content). IfSome c.finished_runs.new.known (λ (k : KnownFacts). AreKnown c.args.setup.now m k)) (sym (c.hints_seen.ensures.looks.same trusted))
    (c.in_ok-finished.ensures.known (c.hints_seen.ensures.looks.before trusted))
