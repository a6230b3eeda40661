use Rattle.std.proofs.Common.{◌≡◌, ◌<◌, ◌≤◌, ℕ, List, length, slice_index, sym, ap, subst, ◌∙◌, arith}
use Rattle.office_mail.specs.declared.message.RunOrder.{RunOrder}
use Rattle.office_mail.specs.Runs.{cover_of, orders_to}
use Rattle.office_store_keeper.specs.Content.{Content}
use Rattle.office_core_facts.proofs.LastStand.{stands_covered}
use Rattle.office_core_facts.proofs.last_run.taken_facts.Goals as goal

pub facts_within-requires : goal.facts_within-requires
facts_within-requires g c = record {
  ahead = λ s low. subst (λ (l : List ℕ). cover_of c.args.orders.now s ≤ slice_index l s) (sym c.deref.ensures.value) (omega (arith, c.in_ok-covers.ensures.covers s low));
}

pub returns-clause-stand : goal.returns-clause-stand
returns-clause-stand g c = λ trusted office are.
    let setup = c.args.setup.now in
    let content : Content = g.K.Keeper.content c.args.keeper.now in
    let covers : List ℕ = c.deref.result.now in
    let same : (s : ℕ) → s < length setup.senders → slice_index covers s ≡ cover_of (orders_to setup content.kept (length content.reports)) s = λ s low.
    ap (λ (l : List ℕ). slice_index l s) c.deref.ensures.value ∙ c.in_ok-covers.ensures.covers s low ∙ ap (λ (os : List RunOrder). cover_of os s) are in
    stands_covered setup content c.in_ok-known.known.facts (slice_index covers) office same (c.in_ok-known.ensures.stand trusted office are)
