use Rattle.std.proofs.Common.{arith, ◌≡◌, ◌∙◌, sym, ap, subst, ◌<◌, length, get_or}
use Rattle.std.specs.List.{All}
use Rattle.std.proofs.lemmas.List.{get_or_default}
use Rattle.testing_install.proofs.Counting.{count_both}
use Rattle.testing_install.proofs.Members.{all_from_members, members_from_all}
use Rattle.testing_install.proofs.Needing.{dependents_within, dependent_found}
use Rattle.testing_install.proofs.Sharing.{length-shared}
use Rattle.testing_install.proofs.Reviving.{reviving_more, fresh_row}
use Rattle.testing_install.specs.Index.{places_at}
use Rattle.testing_install.specs.Rows.{shared}
use Rattle.testing_install.specs.Closed.{marked}
use Rattle.testing_install.proofs.change.revive.Goals as goal

pub revive_dependents-requires-clause-dependents : goal.revive_dependents-requires-clause-dependents
revive_dependents-requires-clause-dependents c = λ name. subst (λ n. All (λ k. k < n) (places_at c.args.graph.now.dependents name)) (length-shared c.args.graph.now.rows.items ∙ sym c.requires.there) (c.requires.graph.needed.within name)

pub revivals-smaller : goal.revivals-smaller
revivals-smaller c =
    let below : c.revivals.next < length c.revivals.fresh.items = omega (arith, c.revivals-test.true, c.len.ensures.value) in
    omega (arith, below, (c.in_ok-revive_dependents.ensures.revived.stays c.revivals.next 0 below).0, count_both c.revive_dependents.new.marks.current, count_both c.revivals.marks.current, c.in_ok-revive_dependents.ensures.measure, c.in_ok-revive_dependents.ensures.long, c.revivals.invariant.long, c.requires.there)

pub revivals-preserved : goal.revivals-preserved
revivals-preserved c =
    let rows = shared c.args.graph.now.rows.items in
    let below : c.revivals.next < length c.revivals.fresh.items = omega (arith, c.revivals-test.true, c.len.ensures.value) in
    let place = get_or c.deref.result.now c.revivals.next 0 in
    let read : place ≡ get_or c.revivals.fresh.items c.revivals.next place = ap (λ ks. get_or ks c.revivals.next 0) c.deref.ensures ∙ get_or_default c.revivals.fresh.items c.revivals.next 0 place below in
    let row = c.as_ref-row.result.now in
    let one = c.in_ok-revive_dependents.ensures.revived in
    let found = dependents_within rows _ row (length c.args.graph.now.rows.items) c.requires.graph.needed (length-shared c.args.graph.now.rows.items) in
    record {
      revived = λ old s. reviving_more rows (marked c.args.there.now) old _ _ _ _ _ _ _ _ _ (c.revivals.invariant.revived old s) one (omega arith) below (fresh_row c.args.graph.now.rows.items c.revivals.fresh.items c.revivals.next place c.index.result.now row below read c.revivals.invariant.fresh c.index.ensures c.as_ref-row.ensures) (dependent_found rows _ row c.requires.graph.needed);
      long = c.in_ok-revive_dependents.ensures.long ∙ c.requires.there;
      kept = c.in_ok-revive_dependents.ensures.kept ∙ c.revivals.invariant.kept;
      fresh = all_from_members _ _ (one.within (length c.args.graph.now.rows.items) found (members_from_all _ _ c.revivals.invariant.fresh));
      next = omega (arith, (one.stays c.revivals.next 0 below).0);
    }
