use Rattle.office_store_tables.proofs.fact_changes.drop_gone.Goals as goal

pub returns : goal.returns
returns g c = record { steps = c.drop_each.ensures.steps; yields = λ trusted. rw c.as_slice.ensures at (c.drop_each.ensures.yields trusted); bad = c.drop_each.ensures.bad }
