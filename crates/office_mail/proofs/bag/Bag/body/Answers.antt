use Rattle.std.proofs.Common.{◌≡◌, ℕ, ◌+◌, ◌≤◌, List, length, take, drop, ap, sym, refl, subst}
use Rattle.std.proofs.lemmas.Result.{err_from_is_err_and}
use Rattle.office_mail.specs.steps.BagReads.{BreaksOff}
use Rattle.office_mail.specs.Reading.{Reading}
use Rattle.office_mail.specs.declared.bag.BagFault.TheVariants.{NoMemory}
use Rattle.office_mail.proofs.BagFacts.{waits_before, body_copied, copy_without_memory}
use Rattle.office_mail.proofs.bag.Bag.body.Goals as goal

pub returns-in_err-message-clause-fault : goal.returns-in_err-message-clause-fault
returns-in_err-message-clause-fault g c =
    let bag = c.self.inside in
    let waiting : List ℕ = drop bag.at bag.pending.items in
    let p = err_from_is_err_and c.from_residual.result c.from_residual.ensures.1 in
    rw (p.1, p.2, c.in_err-message.ensures.fault)
    (subst (λ (r : Reading). BreaksOff r r c.args.length NoMemory) c.self.view_is (copy_without_memory _ c.args.length waiting (waits_before waiting (g.R.Feed.left bag.reader))))

pub returns-then-has_come-clause-whole : goal.returns-then-has_come-clause-whole
returns-then-has_come-clause-whole g c =
    let bag = c.self.inside in
    let n = c.args.length in
    let message : List ℕ = c.in_ok-message.message.items in
    let copy : message ≡ take n (drop bag.at bag.pending.items) = subst (λ (l : List ℕ). message ≡ take n (drop bag.at l)) c.deref-then-has_come.ensures.value c.in_ok-message.ensures.bytes in
    let whole : bag.at + n ≤ length bag.pending.items = subst (λ (l : List ℕ). bag.at + n ≤ length l) c.deref.ensures.value (c.has_come.ensures.whole c.if-has_come.true) in
    body_copied c.args.self.now _ bag.pending.items message (g.R.Feed.left bag.reader) bag.at n (ap (λ (r : Reading). r.left) (sym c.self.view_is)) refl whole (c.has_come.ensures.short c.if-has_come.true) copy
