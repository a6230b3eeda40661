use Rattle.std.proofs.Common.{◌∙◌, sym, ap, ap₂, subst, List, IfSome}
use Rattle.std.proofs.lemmas.Bool.{false≢true}
use Rattle.testing_rules_live.specs.steps.Held.{held, AreLive, IsChangeBy}
use Rattle.testing_rules_model.specs.Boxed.{unboxed}
use Rattle.testing_rules_model.specs.declared.suite.RowIn.{RowIn}
use Rattle.testing_rules_model.specs.declared.suite.SourceIn.{SourceIn}
use Rattle.testing_rules_model.specs.InOrder.{AreByKey}
use Rattle.testing_rules_model.specs.JudgedRows.{lent}
use Rattle.testing_rules_live.specs.steps.Lacks.{arriving}
use Rattle.testing_rules_live.proofs.Unmet.{if_some_weaker}
use Rattle.testing_rules_moves.specs.steps.Refusals.{AreWoken, IsWithinRows}
use Rattle.testing_rules_moves.specs.steps.Runs.{Moment, after_move, broken_by_move}
use Rattle.testing_rules_moves.proofs.Remembering.{within_rows}
use Rattle.testing_rules_suites.specs.steps.AfterMoves.{moved_rows}
use Rattle.testing_rules_suites.proofs.Showing.{by_key-none}
use Rattle.testing_rules_moves.proofs.live.LiveTesting.move_unless_broken.Goals as goal

pub invariant_of-self-in_err-self-inside : goal.invariant_of-self-in_err-self-inside
invariant_of-self-in_err-self-inside c =
    let archs = c.self.inside.archs.now in
    let unstable = lent c.self.inside.unstable.rows.now in
    record {
      order = c.self.invariant.order;
      in_order = record {
        by_name = c.move_group.ensures.ordered;
        by_key = subst (λ l. AreByKey (held l)) (sym c.replace-rows.ensures.after) (subst AreByKey (sym c.new.ensures.items) by_key-none);
      };
      live = subst (λ l. AreLive l archs unstable) (sym c.replace-rows.ensures.after) tt;
    }

pub moved-requires-clause-by_key : goal.moved-requires-clause-by_key
moved-requires-clause-by_key c =
    subst (λ l. AreByKey (held l)) (sym (c.replace-rows.ensures.value ∙ c.in_ok-offender.ensures.same)) c.self.invariant.in_order.by_key

pub moved-requires-clause-change : goal.moved-requires-clause-change
moved-requires-clause-change c =
    subst (λ l. IfSome c.in_ok-offender.change (IsChangeBy l (unboxed c.self.inside.unstable.sources.now) c.args.group.now))
    (sym (c.replace-rows.ensures.value ∙ c.in_ok-offender.ensures.same)) c.in_ok-offender.ensures.change

pub returns-clause-offender : goal.returns-clause-offender
returns-clause-offender c = c.in_ok-offender.ensures.offender ∙ ap (broken_by_move c.args.group.now) c.self.view_is

pub returns-clause-moved : goal.returns-clause-moved
returns-clause-moved c = λ none.
    let group = c.args.group.now in
    let archs = c.self.inside.archs.now in
    let us = unboxed c.self.inside.unstable.sources.now in
    let unstable = lent c.self.inside.unstable.rows.now in
    let before = c.replace-rows.ensures.value ∙ c.in_ok-offender.ensures.same in
    let live = subst (λ l. AreLive l archs unstable) (sym before) c.self.invariant.live in
    let moved = c.in_ok-self-inside.ensures.rows archs live ∙ ap (λ l. moved_rows us unstable group (held l)) before in
    let with_lists : List SourceIn → List RowIn → Moment = λ ss rs. record { basis = record { archs = archs; sources = us; rows = unstable }; suite = record { sources = ss; rows = rs } } in
    ap₂ with_lists c.in_ok-move_group.ensures.ok moved ∙ ap (after_move group) c.self.view_is

pub returns-clause-same : goal.returns-clause-same
returns-clause-same c = λ some. absurd (false≢true (sym c.if-is_some.false ∙ c.is_some.ensures ∙ some))

pub returns-then-is_some-clause-moved : goal.returns-then-is_some-clause-moved
returns-then-is_some-clause-moved c = λ none. absurd (false≢true (sym none ∙ sym c.is_some.ensures ∙ c.if-is_some.true))

pub wake_by_change-requires : goal.wake_by_change-requires
wake_by_change-requires c =
    subst (λ l. IfSome c.in_ok-offender.change (IsWithinRows l)) (sym c.in_ok-offender.ensures.same)
    (if_some_weaker _ _ c.in_ok-offender.change (within_rows c.self.inside.rows (unboxed c.self.inside.unstable.sources.now) c.args.group.now) c.in_ok-offender.ensures.change)

pub returns-clause-woken : goal.returns-clause-woken
returns-clause-woken c = λ none.
    let group = c.args.group.now in
    let archs = c.self.inside.archs.now in
    let us = unboxed c.self.inside.unstable.sources.now in
    let unstable = lent c.self.inside.unstable.rows.now in
    let before = sym c.in_ok-offender.ensures.same in
    let live = subst (λ l. AreLive l archs unstable) before c.self.invariant.live in
    let moves = subst (λ l. IfSome c.in_ok-offender.change (IsChangeBy l us group)) before c.in_ok-offender.ensures.change in
    subst (λ (m : Moment). AreWoken (arriving m.basis.sources m.basis.rows group) c.args.refusals.now c.wake_by_change.new.refusals) c.self.view_is
    (c.wake_by_change.ensures archs us unstable group live moves)

pub returns-clause-asleep : goal.returns-clause-asleep
returns-clause-asleep c = λ some. absurd (false≢true (sym c.if-is_some.false ∙ c.is_some.ensures ∙ some))

pub returns-then-is_some-clause-woken : goal.returns-then-is_some-clause-woken
returns-then-is_some-clause-woken c = λ none. absurd (false≢true (sym none ∙ sym c.is_some.ensures ∙ c.if-is_some.true))
