use Rattle.std.proofs.Common.{◌∙◌, ap, List, []}
use Rattle.testing_rules_model.specs.declared.facts.UploadIn.{UploadIn}
use Rattle.testing_rules_model.specs.JudgedRows.{lent}
use Rattle.testing_rules_moves.specs.steps.Runs.{Moment, Run}
use Rattle.testing_rules_moves.proofs.turns.Turns.over.Goals as goal

pub returns : goal.returns
returns c =
    let b = c.args.basis.now in
    let start : Moment → Run = λ m. record { basis = m.basis; outcome = record { decisions = []; suite = m.suite } } in
    let over : List UploadIn → Moment = λ us. record { basis = record { archs = b.archs.now; sources = us; rows = lent b.rows.now }; suite = c.args.testing.now } in
    c.new-turns.ensures ∙ ap start (c.in_ok-live.ensures ∙ ap over c.sources.ensures.sources)
