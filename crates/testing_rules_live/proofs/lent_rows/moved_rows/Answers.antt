use Rattle.std.proofs.Common.{arith, ◌∙◌, sym, ap, subst, ◌<◌, length, List, Bool, fold, filter, not, ◌≤◌}
use Rattle.std.specs.List.{flat_map}
use Rattle.std.specs.Option.{option_copied}
use Rattle.testing_rules_model.specs.Boxed.{unboxed}
use Rattle.testing_rules_model.specs.InOrder.{AreByKey}
use Rattle.testing_rules_model.specs.JudgedRows.{lent}
use Rattle.testing_rules_model.specs.Moves.{source_in, put_row, is_row_of}
use Rattle.testing_rules_model.specs.Unstable.{is_current}
use Rattle.testing_rules_model.specs.declared.facts.UploadIn.{UploadIn}
use Rattle.testing_rules_model.specs.declared.suite.RowIn.{RowIn}
use Rattle.testing_rules_items.proofs.Grouping.{group-none, put_all-more}
use Rattle.testing_rules_model.proofs.Ordered.{by_key-kept}
use Rattle.std.proofs.lemmas.List.{take_all}
use Rattle.testing_rules_live.proofs.lent_rows.moved_rows.Goals as goal
use Rattle.testing_rules_live.proofs.lent_rows.moved_rows.Goals.{in-Some+in_ok-put_current, in_default}

pub loop-name-init : goal.loop-name-init
loop-name-init c =
    let keep : RowIn → Bool = λ r. not (is_row_of c.args.group.now r) in
    record {
      so_far = c.in_ok-moved.ensures;
      ordered = subst AreByKey (sym c.in_ok-moved.ensures) (by_key-kept keep (lent c.args.rows.now) c.requires.order);
    }

pub loop-name-preserved : goal.loop-name-preserved
loop-name-preserved c =
    let group = c.args.group.now in
    let us = unboxed c.args.unstable.sources.now in
    let built = lent c.args.unstable.rows.now in
    let i = c.loop-name.name-index in
    let d = c.name-item.result in
    let below : i < length group = omega arith in
    let kept : List RowIn = filter (λ (r : RowIn). not (is_row_of group r)) (lent c.args.rows.now) in
    let put_in : List RowIn → RowIn → List RowIn = λ xs r. put_row r xs in
    let rows : UploadIn → List RowIn = λ u. filter (is_current u) built in
    let found = ap (source_in us) (sym c.name-item.is) ∙ ap (source_in us) (sym c.as_str.ensures) ∙ sym c.source_in.ensures in
    elim c.match-source_in.branch [
      | in-Some+in_ok-put_current w ↦
          let u = w.in-Some.upload.now in
          let is = found ∙ ap option_copied w.in-Some.is in
          let more_rows = put_all-more (source_in us) group i d below put_in rows kept u is in
          let now = ap (λ v. lent v.items) w.moved-is in
          record {
            so_far = now ∙ w.in_ok-put_current.ensures.ok ∙ ap (λ xs. fold put_in xs (rows u)) c.loop-name.invariant.so_far ∙ sym more_rows;
            ordered = subst AreByKey (sym now) w.in_ok-put_current.ensures.ordered;
          }
      | in_default w ↦
          let none = sym (group-none (source_in us) group i d below (found ∙ ap option_copied w.in_default.is)) in
          let now = ap (λ v. lent v.items) w.moved-is in
          record {
            so_far = now ∙ c.loop-name.invariant.so_far ∙ ap (λ s. fold put_in kept (flat_map rows s)) none;
            ordered = subst AreByKey (sym now) c.loop-name.invariant.ordered;
          }
    ]

pub returns-clause-rows : goal.returns-clause-rows
returns-clause-rows c =
    let over : length c.args.group.now ≤ c.loop-name.name-index = omega arith in
    rw (take_all c.loop-name.name-index c.args.group.now over) at c.loop-name.invariant.so_far
