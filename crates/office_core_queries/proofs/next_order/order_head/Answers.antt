use Rattle.std.proofs.lemmas.List.{append_assoc}
use Rattle.office_core_queries.proofs.next_order.order_head.Goals as goal

pub returns : goal.returns
returns c = simp append_assoc (rw (c.name_at-name.ensures, c.runs.ensures.same) at c.format.ensures.ok)
