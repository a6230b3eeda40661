use Rattle.std.proofs.Common.{◌≡◌, ◌∙◌, sym, ap, ◌∷◌, [], map}
use Rattle.std.specs.List.{insert}
use Rattle.testing_rules_model.specs.FactRows.{upload_row}
use Rattle.testing_rules_model.specs.declared.facts.UploadIn.{UploadIn}
use Rattle.testing_rules_model.proofs.KeyOrder.{searchable}
use Rattle.testing_rules_facts.proofs.KeptUploads.{message_total, keys_in_order, kept-there, kept-before}
use Rattle.testing_rules_facts.proofs.taken.put_kept.Goals as goal

pub returns-in-Ok-clause-items : goal.returns-in-Ok-clause-items
returns-in-Ok-clause-items c =
    let u = c.args.upload in
    let us = c.args.uploads.now.items in
    let bound = rw c.deref.ensures.value at c.in-Ok.ensures.bound in
    let found = rw c.deref.ensures.value at c.in-Ok.ensures.found in
    sym (kept-there u us c.in-Ok._place u c.requires.order bound (found u)).0

pub returns-in-Ok-clause-came : goal.returns-in-Ok-clause-came
returns-in-Ok-clause-came c =
    let u = c.args.upload in
    let us = c.args.uploads.now.items in
    let bound = rw c.deref.ensures.value at c.in-Ok.ensures.bound in
    let found = rw c.deref.ensures.value at c.in-Ok.ensures.found in
    sym (ap (map upload_row) (kept-there u us c.in-Ok._place u c.requires.order bound (found u)).1)

pub returns-in-Err-clause-items : goal.returns-in-Err-clause-items
returns-in-Err-clause-items c =
    let u = c.args.upload in
    let us = c.args.uploads.now.items in
    let i = c.in-Err.place in
    let bound = rw c.deref.ensures.value at c.in-Err.ensures.bound in
    let found = rw c.deref.ensures.value at c.in-Err.ensures.found in
    let parts = found (searchable (λ (v : UploadIn). v) message_total us (keys_in_order us c.requires.order) u) in
    let done : c.insert.new.self.items ≡ insert us i u = rw (c.insert.ensures.succeeds c.requires.room) at c.insert.ensures.items in
    done ∙ sym (kept-before u us i bound parts).0

pub returns-in-Err-clause-came : goal.returns-in-Err-clause-came
returns-in-Err-clause-came c =
    let u = c.args.upload in
    let us = c.args.uploads.now.items in
    let i = c.in-Err.place in
    let bound = rw c.deref.ensures.value at c.in-Err.ensures.bound in
    let found = rw c.deref.ensures.value at c.in-Err.ensures.found in
    let parts = found (searchable (λ (v : UploadIn). v) message_total us (keys_in_order us c.requires.order) u) in
    ap (λ r. r ∷ []) c.upload_row-row.ensures ∙ sym (ap (map upload_row) (kept-before u us i bound parts).1)
