use Rattle.std.proofs.Common.{◌≤◌, ℕ, List, Option, Some, slice_index, length, sym, ap, subst, ◌∙◌}
use Rattle.jiff_core.specs.declared.civil.date.Date.{Date}
use Rattle.office_mail.specs.declared.message.RunOrder.{RunOrder}
use Rattle.office_mail.specs.Runs.{cover_of, latest_day}
use Rattle.office_store_keeper.specs.Content.{Content}
use Rattle.office_core_facts.specs.Seen.{release}
use Rattle.office_core_facts.specs.steps.Last.{OfRuns}
use Rattle.office_core_outcome.specs.Trial.{trial_date}
use Rattle.office_core_outcome.specs.steps.Snapshot.{IsSnapshot}
use Rattle.office_core_outcome.proofs.snapshot.snapshot_after.Goals as goal

pub snapshot_over-requires : goal.snapshot_over-requires
snapshot_over-requires g c = record {
  ahead = λ s low. subst (λ (l : List ℕ). cover_of c.args.finished.now.orders.items s ≤ slice_index l s) (sym c.deref.ensures.value)
      (subst (λ (os : List RunOrder). cover_of os s ≤ slice_index c.in_ok-covers.covers.items s) c.deref-orders.ensures.value (c.in_ok-covers.ensures.ahead s low));
}

pub returns-in-Some-clause-kept : goal.returns-in-Some-clause-kept
returns-in-Some-clause-kept g c = λ trusted legible.
    let taken = c.in_ok-snapshot-in-Some.ensures in
    taken.kept trusted legible ∙ ap (λ (m : Content). m.testing) (c.in_ok-covers.ensures.looks.same (taken.looks.before trusted))

pub returns-in-Some-clause-found : goal.returns-in-Some-clause-found
returns-in-Some-clause-found g c = λ trusted office finished was.
    let setup = c.args.setup.now in
    let content : Content = g.K.Keeper.content c.args.keeper.now in
    let are = c.deref-orders.ensures.value ∙ finished.orders office in
    let taken = c.in_ok-snapshot-in-Some.ensures in
    let snapshot = c.in_ok-snapshot-in-Some.snapshot in
    let earlier = taken.looks.before trusted in
    record {
      covers = slice_index c.in_ok-covers.covers.items;
      are = c.in_ok-covers.ensures.covers earlier office are;
      few = c.in_ok-covers.ensures.few earlier office are (release setup);
      dated = ap Some taken.date ∙ sym c.in-Some.is ∙ c.trial_date.ensures ∙ ap (λ (last : Option Date). trial_date last c.args.terms.day) (c.latest_day.ensures ∙ ap latest_day are);
      is = λ legible. subst (λ (l : List ℕ). IsSnapshot setup content.kept (length content.reports) (slice_index l) snapshot) c.deref.ensures.value
          (subst (λ (m : Content). OfRuns setup m c.args.finished.now c.args.known.now (IsSnapshot setup m.kept (length m.reports) (slice_index c.deref.result.now) snapshot))
          (c.in_ok-covers.ensures.looks.same earlier) (taken.is trusted legible) office finished was);
    }

pub returns-clause-found : goal.returns-clause-found
returns-clause-found g c = λ trusted office finished was.
    let are = c.deref-orders.ensures.value ∙ finished.orders office in
    record {
      covers = slice_index c.in_ok-covers.covers.items;
      are = c.in_ok-covers.ensures.covers trusted office are;
      few = c.in_ok-covers.ensures.few trusted office are (release c.args.setup.now);
      dated = sym c.in-None.is ∙ c.trial_date.ensures ∙ ap (λ (last : Option Date). trial_date last c.args.terms.day) (c.latest_day.ensures ∙ ap latest_day are);
      is = λ legible. tt;
    }
