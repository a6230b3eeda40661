use Rattle.std.proofs.Common.{◌≡◌, ◌+◌, ℕ, List, Option, IfSome, length, true, sym, ap, subst, ◌∙◌, refl, arith}
use Rattle.std.specs.FinMap.{get}
use Rattle.std.proofs.lemmas.List.{length_push}
use Rattle.testing_rules_laws.specs.FactLists.{FactLists}
use Rattle.testing_rules_laws.specs.KeptFacts.{KeptFacts}
use Rattle.testing_rules_model.specs.Suite.{Suite}
use Rattle.testing_rules_model.specs.declared.fact_row.FactChanges.{FactChanges}
use Rattle.office_mail.specs.declared.message.RunOrder.{RunOrder}
use Rattle.office_mail.specs.Kept.{Kept}
use Rattle.office_mail.specs.Lists.{Lists}
use Rattle.office_mail.specs.Runs.{IsReady, cover_of}
use Rattle.office_store_keeper.specs.Content.{Content, with_run}
use Rattle.office_store_keeper.specs.FactSet.{AreHoldable, facts_after}
use Rattle.office_store_keeper.specs.Provenance.{AreOwnTexts, IsGiven}
use Rattle.office_core_facts.specs.declared.covered.KnownFacts.{KnownFacts}
use Rattle.office_core_facts.specs.Known.{AreKnown}
use Rattle.office_core_facts.specs.Outcome.{outcome_of}
use Rattle.office_core_facts.specs.steps.Outcome.{outcome_in}
use Rattle.office_core_orders.specs.Ready.{HasEach}
use Rattle.office_core_orders.specs.steps.Ready.{FirstOrders}
use Rattle.office_core_facts.specs.State.{IsOffice, KeepsFacts}
use Rattle.office_core_facts.specs.steps.Walk.{said_within}
use Rattle.office_core_orders.proofs.CountFacts.{IsCounted-later}
use Rattle.office_core.proofs.FinishFacts.{IsOffice-finished}
use Rattle.office_core_store.proofs.LastFacts.{lasts_then}
use Rattle.office_core.proofs.KeepingFacts.{Leaves, held_by_same, if_known-then, keeps_facts, leaves_over}
use Rattle.office_core.proofs.runs.finish_next.Goals as goal

-- what is given stays so by equal lists, over equal contents
given_by_same : (lists setup : Lists) (late mid : Content) (testing : Suite) → lists ≡ setup → late ≡ mid → IsGiven setup mid testing → IsGiven lists late testing
given_by_same lists setup late mid testing e f given = subst (λ (u : Lists). IsGiven u late testing) (sym e) (subst (λ (m : Content). IsGiven setup m testing) (sym f) given)

pub returns-in-Ok-clause-office : goal.returns-in-Ok-clause-office
returns-in-Ok-clause-office g c = λ trusted legible office.
    let setup = c.args.next.now.setup.now in
    let trust = g.K.Keeper.is_trusted in
    let content = g.K.Keeper.content in
    let old : Content = content c.args.keeper.now in
    let mid : Content = content c.next_is_ready.new.keeper in
    let late : Content = content c.next_outcome.new.keeper in
    let new : Content = content c.finish.new.keeper in
    let at3 = c.in-Ok.ensures in
    let t2 = at3.before trusted in
    let at2 = c.in_ok-done.ensures in
    let t1 = at2.looks.before t2 in
    let at1 = c.in_ok-next_is_ready.ensures in
    let t0 = at1.looks.before t1 in
    let same1 : mid ≡ old = at1.looks.same t1 in
    let same2 : late ≡ old = at2.looks.same t2 ∙ same1 in
    let n = length old.reports in
    let finished : c.args.next.now.finished ≡ n = c.requires.finished t0 in
    let orders : List RunOrder = c.next_is_ready.new.orders.items in
    let known = at1.known t1 in
    let size : length orders ≡ n + 1 = omega (arith, known.next, at1.there c.if-not-branch.false, finished) in
    let ready : IsReady setup old.kept (n + 1) = subst (λ k. IsReady setup old.kept (k + 1)) finished ((at1.ready t1 office.places office.ready).0 c.if-not-branch.false) in
    let there : IsOffice setup mid = subst (IsOffice setup) (sym same1) office in
    let legible1 = at1.looks.legible t1 legible in
    let legible2 = at2.looks.legible t2 legible1 in
    let lists : g.K.Keeper.setup c.next_outcome.new.keeper ≡ setup = at2.looks.setup ∙ at1.looks.setup ∙ c.requires.lists in
    let own : AreOwnTexts setup mid.kept = subst (λ (m : Content). AreOwnTexts setup m.kept) (sym same1) office.texts in
    let gives = given_by_same (g.K.Keeper.setup c.next_outcome.new.keeper) setup late mid c.in_ok-done.done.testing lists (at2.looks.same t2) (at2.given t2 legible1 own) in
    let changes : FactChanges = c.in_ok-done.done.facts in
    let held : AreHoldable (g.K.Keeper.setup c.next_outcome.new.keeper) (facts_after changes late.facts) =
    held_by_same (g.K.Keeper.setup c.next_outcome.new.keeper) setup late mid changes lists (at2.looks.same t2) (at2.held t2 own) in
    let next : new ≡ with_run old c.in_ok-done.done = at3.done trusted legible2 gives held ∙ ap (λ (m : Content). with_run m c.in_ok-done.done) same2 in
    let given : List RunOrder = c.deref.result.now in
    let first : FirstOrders setup mid.kept given = subst (FirstOrders setup mid.kept) (sym c.deref.ensures.value) (subst (λ (m : Content). FirstOrders setup m.kept orders) (sym same1) known.first) in
    let whole : length given ≡ length mid.reports + 1 = ap length c.deref.ensures.value ∙ size ∙ ap (λ (m : Content). length m.reports + 1) (sym same1) in
    let run : c.args.next.now.finished + 1 ≡ length mid.reports + 1 = ap (λ k. k + 1) finished ∙ ap (λ (m : Content). length m.reports + 1) (sym same1) in
    let is : outcome_in c.in_ok-done.done ≡ outcome_of setup old.kept (n + 1) =
    at2.outcome t2 legible1 there first whole run ∙ ap (λ (m : Content). outcome_of setup m.kept (c.args.next.now.finished + 1)) same1 ∙ ap (λ k. outcome_of setup old.kept (k + 1)) finished in
    let works = at2.watched t2 legible1 there.watched in
    let f : FactLists = c.in_ok-done.left.facts in
    let whole_orders : FirstOrders setup old.kept orders = known.first in
    let leaves : Leaves setup old new given f changes =
    leaves_over setup (g.K.Keeper.setup c.next_outcome.new.keeper) old mid late new orders given f changes same1 (at2.looks.same t2) lists c.deref.ensures.value whole_orders size (at2.way t2) at2.difference
    (at3.mail trusted) (ap length (at3.reports trusted) ∙ length_push late.reports _) (at3.facts trusted) in
    let stand : KeptFacts f (said_within setup old.kept (cover_of given) (length setup.senders)) new.testing =
    subst (λ (t : Suite). KeptFacts f (said_within setup old.kept (cover_of given) (length setup.senders)) t) (sym (ap (λ (m : Content). m.testing) next))
    (subst (λ (m : Content). KeptFacts f (said_within setup m.kept (cover_of given) (length setup.senders)) c.in_ok-done.done.testing) same1 (at2.kept t2 legible1 there first whole)) in
    let keeps : KeepsFacts setup new = keeps_facts setup old new given f changes leaves office.places (ap (λ (m : Content). m.facts) next) stand in
    IsOffice-finished setup old new c.in_ok-done.done office ready next is works keeps

pub returns-in-Ok-clause-legible : goal.returns-in-Ok-clause-legible
returns-in-Ok-clause-legible g c = λ trusted legible office.
    let setup = c.args.next.now.setup.now in
    let content = g.K.Keeper.content in
    let old : Content = content c.args.keeper.now in
    let mid : Content = content c.next_is_ready.new.keeper in
    let late : Content = content c.next_outcome.new.keeper in
    let at3 = c.in-Ok.ensures in
    let t2 = at3.before trusted in
    let at2 = c.in_ok-done.ensures in
    let t1 = at2.looks.before t2 in
    let at1 = c.in_ok-next_is_ready.ensures in
    let lists : g.K.Keeper.setup c.next_outcome.new.keeper ≡ setup = at2.looks.setup ∙ at1.looks.setup ∙ c.requires.lists in
    let own : AreOwnTexts setup mid.kept = subst (λ (m : Content). AreOwnTexts setup m.kept) (sym (at1.looks.same t1)) office.texts in
    let legible1 = at1.looks.legible t1 legible in
    let gives = given_by_same (g.K.Keeper.setup c.next_outcome.new.keeper) setup late mid c.in_ok-done.done.testing lists (at2.looks.same t2) (at2.given t2 legible1 own) in
    let held = held_by_same (g.K.Keeper.setup c.next_outcome.new.keeper) setup late mid c.in_ok-done.done.facts lists (at2.looks.same t2) (at2.held t2 own) in
    at3.legible trusted (at2.looks.legible t2 legible1) gives held

pub next_outcome-requires-clause-known : goal.next_outcome-requires-clause-known
next_outcome-requires-clause-known g c = λ trusted.
    let setup = c.args.next.now.setup.now in
    let content = g.K.Keeper.content in
    let before : Option KnownFacts = c.args.known.now in
    let at1 = c.in_ok-next_is_ready.ensures in
    subst (λ (o : Option KnownFacts). IfSome o (λ known. AreKnown setup (content c.next_is_ready.new.keeper) known)) (sym c.take-before.ensures.value)
    (subst (λ (m : Content). IfSome before (λ known. AreKnown setup m known)) (sym (at1.looks.same trusted)) (c.requires.facts (at1.looks.before trusted)))

pub returns-in-Ok-clause-known : goal.returns-in-Ok-clause-known
returns-in-Ok-clause-known g c = λ trusted.
    let content = g.K.Keeper.content in
    let old : Content = content c.args.keeper.now in
    let late : Content = content c.next_outcome.new.keeper in
    let new : Content = content c.finish.new.keeper in
    let at3 = c.in-Ok.ensures in
    let t2 = at3.before trusted in
    let at2 = c.in_ok-done.ensures in
    let t1 = at2.looks.before t2 in
    let at1 = c.in_ok-next_is_ready.ensures in
    let same : late ≡ old = at2.looks.same t2 ∙ at1.looks.same t1 in
    let kept : new.kept ≡ old.kept = at3.mail trusted ∙ ap (λ (m : Content). m.kept) same in
    let more = ap length (at3.reports trusted) ∙ length_push late.reports _ in
    IsCounted-later c.args.next.now.setup.now old new c.next_is_ready.new.counts.items c.next_is_ready.new.orders.items (λ p some. ap (λ (k : Kept). get k p) kept)
    (omega (arith, more, ap (λ (m : Content). length m.reports) same)) (at1.known t1)

pub returns-in-Ok-clause-facts : goal.returns-in-Ok-clause-facts
returns-in-Ok-clause-facts g c = λ trusted.
    let setup = c.args.next.now.setup.now in
    let content = g.K.Keeper.content in
    let old : Content = content c.args.keeper.now in
    let mid : Content = content c.next_is_ready.new.keeper in
    let late : Content = content c.next_outcome.new.keeper in
    let new : Content = content c.finish.new.keeper in
    let at3 = c.in-Ok.ensures in
    let t2 = at3.before trusted in
    let at2 = c.in_ok-done.ensures in
    let t1 = at2.looks.before t2 in
    let at1 = c.in_ok-next_is_ready.ensures in
    let t0 = at1.looks.before t1 in
    let same1 : mid ≡ old = at1.looks.same t1 in
    let known = at1.known t1 in
    let orders : List RunOrder = c.next_is_ready.new.orders.items in
    let given : List RunOrder = c.deref.result.now in
    let size : length orders ≡ length old.reports + 1 = omega (arith, known.next, at1.there c.if-not-branch.false, c.requires.finished t0) in
    let lists : g.K.Keeper.setup c.next_outcome.new.keeper ≡ setup = at2.looks.setup ∙ at1.looks.setup ∙ c.requires.lists in
    let f : FactLists = c.in_ok-done.left.facts in
    let changes : FactChanges = c.in_ok-done.done.facts in
    let leaves : Leaves setup old new given f changes =
    leaves_over setup (g.K.Keeper.setup c.next_outcome.new.keeper) old mid late new orders given f changes same1 (at2.looks.same t2) lists c.deref.ensures.value known.first size (at2.way t2) at2.difference
    (at3.mail trusted) (ap length (at3.reports trusted) ∙ length_push late.reports _) (at3.facts trusted) in
    let counts : List ℕ = c.deref-in-Ok.result.now in
    let numbers : HasEach new.kept counts = subst (HasEach new.kept) (sym c.deref-in-Ok.ensures.value) (subst (λ (k : Kept). HasEach k c.next_is_ready.new.counts.items) (sym leaves.mail) known.numbers) in
    if_known-then setup old new given f changes leaves counts _ c.counted.result c.keep.ensures numbers at2.taken c.counted.ensures.same c.counted.ensures.within c.counted.ensures.release

pub returns-in-Ok-clause-reports : goal.returns-in-Ok-clause-reports
returns-in-Ok-clause-reports g c = λ trusted.
    let content = g.K.Keeper.content in
    let late : Content = content c.next_outcome.new.keeper in
    let at3 = c.in-Ok.ensures in
    let t2 = at3.before trusted in
    let at2 = c.in_ok-done.ensures in
    let t1 = at2.looks.before t2 in
    let at1 = c.in_ok-next_is_ready.ensures in
    let same = ap (λ (m : Content). length m.reports) (at2.looks.same t2 ∙ at1.looks.same t1) in
    omega (arith, ap length (at3.reports trusted) ∙ length_push late.reports _, same, c.requires.finished (at1.looks.before t1))

pub returns-in-Ok-clause-kept : goal.returns-in-Ok-clause-kept
returns-in-Ok-clause-kept g c = λ trusted.
    let t2 = c.in-Ok.ensures.before trusted in
    let t1 = c.in_ok-done.ensures.looks.before t2 in
    c.in-Ok.ensures.mail trusted ∙ ap (λ (m : Content). m.kept) (c.in_ok-done.ensures.looks.same t2 ∙ c.in_ok-next_is_ready.ensures.looks.same t1)

pub returns-in-Ok-clause-ready : goal.returns-in-Ok-clause-ready
returns-in-Ok-clause-ready g c = λ trusted office.
    let t1 = c.in_ok-done.ensures.looks.before (c.in-Ok.ensures.before trusted) in
    (λ yes. (c.in_ok-next_is_ready.ensures.ready t1 office.places office.ready).0 c.if-not-branch.false, λ ready. refl)

pub returns-in-Ok-clause-setup : goal.returns-in-Ok-clause-setup
returns-in-Ok-clause-setup g c = c.in-Ok.ensures.setup ∙ c.in_ok-done.ensures.looks.setup ∙ c.in_ok-next_is_ready.ensures.looks.setup

pub returns-in-Ok-clause-before : goal.returns-in-Ok-clause-before
returns-in-Ok-clause-before g c = λ trusted. c.in_ok-next_is_ready.ensures.looks.before (c.in_ok-done.ensures.looks.before (c.in-Ok.ensures.before trusted))

pub returns-in-Ok-clause-lasts : goal.returns-in-Ok-clause-lasts
returns-in-Ok-clause-lasts g c =
    let keeper = g.K.Keeper in
    let s0 = c.args.keeper.now in
    let s1 = c.next_is_ready.new.keeper in
    let s2 = c.next_outcome.new.keeper in
    lasts_then keeper s0 s2 c.finish.new.keeper true (lasts_then keeper s0 s1 s2 true c.in_ok-next_is_ready.ensures.looks.lasts c.in_ok-done.ensures.looks.lasts) c.in-Ok.ensures.lasts

pub returns-in-Ok-clause-counted : goal.returns-in-Ok-clause-counted
returns-in-Ok-clause-counted g c = c.in-Ok.ensures.counted ∙ c.in_ok-done.ensures.looks.counted ∙ c.in_ok-next_is_ready.ensures.looks.counted
