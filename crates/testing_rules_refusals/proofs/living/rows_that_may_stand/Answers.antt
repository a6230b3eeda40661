use Rattle.std.proofs.Common.{◌≡◌, ◌∙◌, ap, ◌++◌, not, List}
use Rattle.std.specs.Prelude.{filter}
use Rattle.std.specs.Str.{bytes_eq}
use Rattle.std.proofs.lemmas.List.{map-append}
use Rattle.testing_rules_items.specs.Words.{Text}
use Rattle.testing_rules_model.specs.declared.suite.RowIn.{RowIn}
use Rattle.testing_rules_model.specs.JudgedRows.{lent, row_of}
use Rattle.testing_rules_model.specs.Moves.{rows_on}
use Rattle.testing_rules_refusals.specs.Stuck.{gives_way}
use Rattle.testing_rules_refusals.proofs.living.rows_that_may_stand.Goals as goal

pub returns : goal.returns
returns c =
    let a = c.args in
    let rows = lent a.rows.now in
    let coming = lent a.coming.now in
    let of : Text → List RowIn = λ n. filter (λ (q : RowIn). bytes_eq q.binary.source n) coming in
    let left : List RowIn → Text → List RowIn → List RowIn = λ own n rs. filter (λ (r : RowIn). not (gives_way own n r)) rs in
    let there : lent c.deref.result.now ≡ rows_on a.arch rows = ap lent c.deref.ensures.value ∙ c.in_ok-there.ensures in
    let own : lent c.deref-2.result.now ≡ of a.name.now = ap lent c.deref-2.ensures.value ∙ c.in_ok-own.ensures ∙ ap of c.as_str.ensures in
    let more : lent c.deref-3.result.now ≡ rows_on a.arch coming = ap lent c.deref-3.ensures.value ∙ c.in_ok-more.ensures in
    let beside : lent c.in_ok-all.all.items ≡ left (of a.name.now) a.name.now (rows_on a.arch rows) =
    c.in_ok-all.ensures
    ∙ ap (left (lent c.deref-2.result.now) c.as_str-2.result.now) there
    ∙ ap (λ (ps : List RowIn). left ps c.as_str-2.result.now (rows_on a.arch rows)) own
    ∙ ap (λ (n : Text). left (of a.name.now) n (rows_on a.arch rows)) c.as_str-2.ensures in
    ap lent c.in_ok-extend_from_slice.ensures.items
    ∙ map-append row_of c.in_ok-all.all.items c.deref-3.result.now
    ∙ ap (λ (rs : List RowIn). rs ++ lent c.deref-3.result.now) beside
    ∙ ap (λ (rs : List RowIn). left (of a.name.now) a.name.now (rows_on a.arch rows) ++ rs) more
