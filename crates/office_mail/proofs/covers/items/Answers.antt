use Rattle.std.proofs.Common.{ap, sym, ◌∙◌}
use Rattle.std.specs.List.{list_all}
use Rattle.deb_control.specs.Text.{is_white}
use Rattle.office_mail.proofs.CoverFacts.{item_kept, item_left}
use Rattle.office_mail.proofs.covers.items.Goals as goal
use Rattle.office_mail.proofs.covers.items.Goals.{then-not-is_all_white+in_ok-push, else-not-is_all_white}

pub parts-preserved : goal.parts-preserved
parts-preserved c =
    let white = ap (list_all is_white) (sym c.as_bytes.ensures.value) ∙ sym c.is_all_white.ensures in
    elim c.if-not-is_all_white.branch [
      | then-not-is_all_white+in_ok-push w ↦ rw (w.items-is, w.in_ok-push.ensures.items) (item_kept c.parts.items.items c.deref-part-items.result.now c.parts.part-index _ c.parts-test.true c.parts.invariant (white ∙ w.if-not-is_all_white.true))
      | else-not-is_all_white w ↦ rw w.items-is (item_left c.parts.items.items c.deref-part-items.result.now c.parts.part-index _ c.parts-test.true c.parts.invariant (white ∙ w.if-not-is_all_white.false))
    ]
