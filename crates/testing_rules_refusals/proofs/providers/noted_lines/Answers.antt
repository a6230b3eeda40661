use Rattle.std.proofs.Common.{◌≡◌, ◌∙◌, ◌+◌, ◌<◌, ◌≤◌, length, Some, None, sym, ap, subst, option_map, arith}
use Rattle.deb_control.specs.declared.binary.Binary.{Binary}
use Rattle.testing_install.specs.Index.{provides_name}
use Rattle.testing_install.specs.Dependents.{IsNotedAt}
use Rattle.testing_rules_model.specs.JudgedRows.{lent}
use Rattle.testing_rules_refusals.specs.Needs.{need_of, need_at}
use Rattle.testing_rules_refusals.proofs.LineProviders.{IsLineIndexTo, lines_none, lines_more, lines_same, lines_all}
use Rattle.testing_rules_refusals.proofs.providers.noted_lines.Goals as goal
use Rattle.testing_rules_refusals.proofs.providers.noted_lines.Goals.{in-Some+in_ok-note_row, in_default}

pub loop-before-init : goal.loop-before-init
loop-before-init c = lines_none (lent c.args.rows.now) c.args.steps.now _ c.new-noted.ensures

pub loop-before-preserved : goal.loop-before-preserved
loop-before-preserved c =
    let rows = lent c.args.rows.now in
    let steps = c.args.steps.now in
    let n = c.loop-before.before in
    elim c.match-need_at.branch [
      | in-Some+in_ok-note_row w ↦
          let here : need_at rows steps (n + 1) ≡ Some (need_of w.in-Some.need) = sym c.need_at.ensures ∙ ap (option_map need_of) w.in-Some.is in
          let below : n < length steps = omega arith in
          let one = subst (λ (b : Binary). IsNotedAt (provides_name b) c.loop-before.noted w.note_row.new.providers (n + 1)) w.deref.ensures w.in_ok-note_row.ensures in
          subst (λ i. IsLineIndexTo rows steps i (n + 1)) (sym w.noted-is) (lines_more rows steps _ _ n _ below here c.loop-before.invariant one)
      | in_default w ↦
          let none : need_at rows steps (n + 1) ≡ None = sym c.need_at.ensures ∙ ap (option_map need_of) w.in_default.is in
          subst (λ i. IsLineIndexTo rows steps i (n + 1)) (sym w.noted-is) (lines_same rows steps _ n none c.loop-before.invariant)
    ]

pub returns : goal.returns
returns c =
    let over : length c.args.steps.now ≤ c.loop-before.before = omega arith in
    lines_all (lent c.args.rows.now) c.args.steps.now _ c.loop-before.before c.loop-before.invariant over
