use Rattle.std.proofs.Common.{sym, ap, ◌∙◌, subst}
use Rattle.std.specs.Prelude.{Ok, Err}
use Rattle.std.proofs.lemmas.List.{map-set}
use Rattle.testing_rules_model.specs.InOrder.{AreByKey}
use Rattle.testing_rules_model.specs.JudgedRows.{lent, row_of}
use Rattle.testing_rules_model.specs.Moves.{row_key}
use Rattle.testing_rules_model.proofs.KeyPlaces.{place-for}
use Rattle.testing_rules_suites.proofs.Lost.{row_order}
use Rattle.testing_rules_items.proofs.Mapped.{mapped-insert}
use Rattle.testing_rules_model.proofs.Ordered.{by_key-put}
use Rattle.testing_rules_suites.proofs.lent_rows.put_row.Goals as goal

pub returns-in-Ok-clause-ok : goal.returns-in-Ok-clause-ok
returns-in-Ok-clause-ok c =
    let xs = c.args.rows.now.items in
    let row = row_of c.args.row.now in
    let bound = rw c.deref.ensures.value at c.in-Ok.ensures.bound in
    let found = rw c.deref.ensures.value at c.in-Ok.ensures.found in
    let place = place-for row_key row_order row (lent xs) (Ok c.in-Ok.place) c.requires bound found in
    map-set row_of xs c.in-Ok.place c.args.row.now ∙ sym place.1

pub returns-in-Ok-clause-ordered : goal.returns-in-Ok-clause-ordered
returns-in-Ok-clause-ordered c =
    let xs = c.args.rows.now.items in
    let row = row_of c.args.row.now in
    let bound = rw c.deref.ensures.value at c.in-Ok.ensures.bound in
    let found = rw c.deref.ensures.value at c.in-Ok.ensures.found in
    let place = place-for row_key row_order row (lent xs) (Ok c.in-Ok.place) c.requires bound found in
    subst AreByKey (sym (map-set row_of xs c.in-Ok.place c.args.row.now ∙ sym place.1)) (by_key-put row (lent xs) c.requires)

pub returns-in_ok-insert-in-Err-clause-ok : goal.returns-in_ok-insert-in-Err-clause-ok
returns-in_ok-insert-in-Err-clause-ok c =
    let xs = c.args.rows.now.items in
    let row = row_of c.args.row.now in
    let bound = rw c.deref.ensures.value at c.in-Err.ensures.bound in
    let found = rw c.deref.ensures.value at c.in-Err.ensures.found in
    let place = place-for row_key row_order row (lent xs) (Err c.in-Err.place) c.requires bound found in
    ap lent c.in_ok-insert-in-Err.ensures.items ∙ mapped-insert row_of xs c.in-Err.place c.args.row.now ∙ sym place.1

pub returns-in_ok-insert-in-Err-clause-ordered : goal.returns-in_ok-insert-in-Err-clause-ordered
returns-in_ok-insert-in-Err-clause-ordered c =
    let xs = c.args.rows.now.items in
    let row = row_of c.args.row.now in
    let bound = rw c.deref.ensures.value at c.in-Err.ensures.bound in
    let found = rw c.deref.ensures.value at c.in-Err.ensures.found in
    let place = place-for row_key row_order row (lent xs) (Err c.in-Err.place) c.requires bound found in
    subst AreByKey (sym (ap lent c.in_ok-insert-in-Err.ensures.items ∙ mapped-insert row_of xs c.in-Err.place c.args.row.now ∙ sym place.1)) (by_key-put row (lent xs) c.requires)
