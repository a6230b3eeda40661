use Rattle.testing_install_why.proofs.Checked.{shown_everywhere}
use Rattle.testing_install_why.proofs.by_names.is_shown.Goals as goal

pub returns : goal.returns
returns c = λ e.
    shown_everywhere c.args.rows.now c.args.steps.now c.args.place (c.are_steps.ensures c.if-not-are_steps.false) (c.is_placed_by.ensures c.if-not-is_placed_by.false) (c.ends_at.ensures e)
