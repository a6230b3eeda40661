use Rattle.std.proofs.Common.{length, arith, ◌∙◌, ap, sym, subst}
use Rattle.testing_rules_fact_order.specs.Uploads.{AreByMessage, with_kept}
use Rattle.testing_rules_facts.proofs.KeptUploads.{by_message-kept}
use Rattle.testing_rules_facts.proofs.facts.Facts.restore_upload.Goals as goal

pub invariant_of-self-in-Some : goal.invariant_of-self-in-Some
invariant_of-self-in-Some c =
    let u = c.in-Some.upload in
    let became = c.put_kept.ensures.items ∙ ap (with_kept u) c.in_ok-reserve_with.ensures.items in (
      c.self.invariant.0,
      omega (arith, c.in_ok-reserve_with.ensures.room_left, c.put_kept.ensures.len, c.len-count.ensures, ap length c.in_ok-reserve_with.ensures.items),
      subst AreByMessage (sym became) (by_message-kept u c.self.inside.uploads.items c.self.invariant.2),
      c.self.invariant.3,
      c.self.invariant.4,
    )
