use Rattle.std.proofs.Common.{◌≡◌, ◌∙◌, sym, ap, ◌++◌, subst}
use Rattle.std.specs.Prelude.{OnOk}
use Rattle.std.specs.Option.{option_copied}
use Rattle.testing_rules_model.specs.Updates.{Outcome, move_as_one}
use Rattle.testing_rules_moves.proofs.InTurn.{items-as_one}
use Rattle.testing_rules_moves.proofs.turns.Turns.move_items.Goals as goal

pub returns : goal.returns
returns c =
    let r = c.args.self.now in
    let b = r.basis in
    let archs = b.archs in
    let sources = b.sources in
    let built = b.rows in
    let hint = c.args.hint in
    let t = r.outcome.suite in
    let same = items-as_one archs sources built hint c.args.excuses.now t c.args.items.now (sym c.is_empty.ensures ∙ c.if-is_empty.false)
    (sym c.first_other.ensures ∙ ap option_copied c.in_default.is)
    ∙ ap (λ g. move_as_one archs sources built hint g t) (sym (c.deref.ensures.value ∙ c.in_ok-group.ensures)) in
    subst (λ (p : Outcome). OnOk c.move_as_one.result (c.move_as_one.new.self ≡ record { basis = b; outcome = record { decisions = r.outcome.decisions ++ p.decisions; suite = p.suite } })) (sym same) c.move_as_one.ensures
