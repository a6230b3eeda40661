use Rattle.std.proofs.Common.{arith, ◌∙◌, ap, sym, subst}
use Rattle.testing_rules_model.specs.Boxed.{unboxed}
use Rattle.testing_rules_model.specs.WithMessage.{with_upload}
use Rattle.testing_rules_model.specs.FactOrder.{AreBySource}
use Rattle.testing_rules_fact_order.specs.Uploads.{AreByMessage, with_kept}
use Rattle.testing_rules_facts.proofs.KeptUploads.{by_message-kept}
use Rattle.testing_rules_facts.proofs.KeySlots.{by_source-upload}
use Rattle.testing_rules_facts.proofs.facts.Facts.take_upload.Goals as goal

pub invariant_of-self-2 : goal.invariant_of-self-2
invariant_of-self-2 c = (
  record {
    by_source = subst AreBySource (sym (c.put_upload-shifted.ensures.items ∙ ap (λ us. with_upload c.in_ok-source.field-0.source.value (unboxed us)) c.in_ok-reserve_with.ensures.items)) (by_source-upload c.in_ok-source.field-0.source.value (unboxed c.self.inside.sources.items) c.self.invariant.0.by_source);
    by_pair = c.self.invariant.0.by_pair;
    drops_by_pair = c.self.invariant.0.drops_by_pair;
    by_number = c.self.invariant.0.by_number;
  },
  omega (arith, c.note.ensures.len_left, c.note.ensures.capacity_left, c.note-2.ensures.len_left, c.note-2.ensures.capacity_left, c.in_ok-reserve_with.ensures.room_left, c.put_kept-came.ensures.len, c.len.ensures),
  subst AreByMessage (sym (c.put_kept-came.ensures.items ∙ ap (with_kept c.in_ok-source.field-0.kept) c.in_ok-reserve.ensures.items)) (by_message-kept c.in_ok-source.field-0.kept c.self.inside.uploads.items c.self.invariant.2),
  c.self.invariant.3,
  c.self.invariant.4,
)
