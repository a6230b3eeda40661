use Rattle.std.proofs.Common.{◌∙◌, sym, ap, not}
use Rattle.std.specs.Option.{is_none}
use Rattle.testing_rules_moves.proofs.Runs.{told_alone}
use Rattle.testing_rules_moves.proofs.turns.Turns.move_alone.Goals as goal

pub returns-clause-moved : goal.returns-clause-moved
returns-clause-moved c = λ moved.
    ap is_none (told_alone _ c.args.self.now _ c.args.excuse.now _ c.self.view_is c.from_ref-group.ensures.value c.in_ok-offender.ensures.offender)
    ∙ ap not (sym c.is_some.ensures ∙ c.if-is_some.false)

pub returns-then-is_some-clause-stays : goal.returns-then-is_some-clause-stays
returns-then-is_some-clause-stays c = λ stays.
    ap is_none (told_alone _ c.args.self.now _ c.args.excuse.now _ c.self.view_is c.from_ref-group.ensures.value c.in_ok-offender.ensures.offender)
    ∙ ap not (sym c.is_some.ensures ∙ c.if-is_some.true)

pub returns-clause-woken : goal.returns-clause-woken
returns-clause-woken c = λ moved.
    rw (← c.self.view_is) (rw c.from_ref-group.ensures.value at c.in_ok-offender.ensures.woken (sym c.is_some.ensures ∙ c.if-is_some.false))
